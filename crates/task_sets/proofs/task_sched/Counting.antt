-- How many have their flag.
use Rattle.std.proofs.Common.{◌≡◌, ℕ, suc, ◌<◌, Bool, true, false, List, [], ◌∷◌, slice_index_or, sum_by, refl, ◌∙◌, ap, arith}
use Rattle.std.proofs.lemmas.List.{get_or_default}
use Rattle.std.proofs.lemmas.List.Sums.{sum_by-cons, sum_by-set, sum_by-le}
use Rattle.task_sets.specs.vertex_queue.Inner.Queues.{bit_if}
use Rattle.task_sets.proofs.vertex_queue.Queueing.{flag_within}
use Rattle.task_sets.specs.task_sched.Tasks.{is_flagged}
use Rattle.task_sets.specs.task_sched.Inner.Flags.{HasFlag}

pub none_counted : (flags : List Bool) → ((u : ℕ) → is_flagged flags u ≡ false) → sum_by bit_if flags ≡ 0
none_counted flags none =
    let most = sum_by-le bit_if 0 flags (λ k d within. let down : bit_if (slice_index_or flags k d) ≡ 0 = rw (get_or_default flags k d false within ∙ none k) in omega arith) in omega arith

-- where some are counted one has its flag
pub some_flag : (flags : List Bool) → 0 < sum_by bit_if flags → HasFlag flags
some_flag [] some = absurd (omega arith)
some_flag (true ∷ flags) some = record { vertex = 0; within = omega arith; has = refl }
some_flag (false ∷ flags) some =
    let more = sum_by-cons bit_if false flags in
    let one = some_flag flags (omega arith) in
    let low = one.within in
    record { vertex = suc one.vertex; within = omega arith; has = one.has }

-- and where none are, none has
pub no_flag_counted : (flags : List Bool) → sum_by bit_if flags ≡ 0 → (u : ℕ) → is_flagged flags u ≡ false
no_flag_counted flags none u = by (is_flagged flags u) refl
  where
    by : (b : Bool) → is_flagged flags u ≡ b → is_flagged flags u ≡ false
    by false is = is
    by true is =
        let within = flag_within flags u is in
        let less = sum_by-set bit_if flags u false false within in
        let one : bit_if (is_flagged flags u) ≡ 1 = ap bit_if is in
        absurd (omega arith)
