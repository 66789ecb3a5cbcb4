use Rattle.std.proofs.Common.{◌≡◌, ◌∙◌, ℕ, ◌<◌, ◌≤◌, Bool, true, false, List, nat_lt, ap, sym, ⊎_elim, arith}
use Rattle.std.proofs.Math.ListN.{replicate}
use Rattle.std.proofs.lemmas.Bool.{cases_lt, lt-ltb, le-ltb}
use Rattle.std.proofs.lemmas.List.{get_or-replicate, get_or_past, length-replicate}
use Rattle.task_sets.proofs.vertex_queue.Queueing.{flags_down}
use Rattle.task_sets.specs.task_sched.Tasks.{is_flagged}
use Rattle.task_sets.proofs.task_sched.Keeping.{kept_new}
use Rattle.task_sets.proofs.task_sched.task_sets.TaskSet.new.Goals as goal

flags_up : (n u : ℕ) → is_flagged (replicate n true) u ≡ nat_lt u n
flags_up n u = ⊎_elim
    (λ (within : u < n). get_or-replicate n u true false within ∙ sym (lt-ltb u n within))
    (λ (past : n ≤ u). get_or_past (replicate n true) u false (rw length-replicate past) ∙ sym (le-ltb u n past))
    (cases_lt u n)

pub invariant_of-result : goal.invariant_of-result
invariant_of-result c =
    let n = c.args.count in
    let tasks : c.in_ok-from_elem.field-0.items ≡ replicate n true = c.in_ok-from_elem.ensures.items_if_clones_equal (λ y clone. clone) in
    let admitted : c.in_ok-from_elem-2.field-0.items ≡ replicate n false = c.in_ok-from_elem-2.ensures.items_if_clones_equal (λ y clone. clone) in
    let planned : c.in_ok-from_elem-3.field-0.items ≡ replicate n false = c.in_ok-from_elem-3.ensures.items_if_clones_equal (λ y clone. clone) in
    rw (tasks, admitted, planned)
    (kept_new n (replicate n true) c.in_ok-none.field-0 (replicate n false) (replicate n false) c.in_ok-new.field-0 c.in_ok-new-2.field-0.among c.args.window
    (omega (arith, c.ranges.count.fits)) (length-replicate n true) c.in_ok-none.ensures.count (length-replicate n false) (length-replicate n false) c.in_ok-new.ensures.count c.in_ok-new-2.ensures.count
    (flags_up n) c.in_ok-none.ensures.none (flags_down n) (flags_down n) c.in_ok-new.ensures.all c.in_ok-new-2.ensures.none)

pub returns-clause-none : goal.returns-clause-none
returns-clause-none c =
    let n = c.args.count in
    let admitted : c.in_ok-from_elem-2.field-0.items ≡ replicate n false = c.in_ok-from_elem-2.ensures.items_if_clones_equal (λ y clone. clone) in
    let planned : c.in_ok-from_elem-3.field-0.items ≡ replicate n false = c.in_ok-from_elem-3.ensures.items_if_clones_equal (λ y clone. clone) in
    λ u. (
      c.in_ok-none.ensures.none u,
      ap (λ (flags : List Bool). is_flagged flags u) admitted ∙ flags_down n u,
      ap (λ (flags : List Bool). is_flagged flags u) planned ∙ flags_down n u,
    )
