-- Attempt by attempt: the updates of each stand behind a restart, or behind nothing.
use Rattle.std.proofs.Common.{◌≡◌, ◌∙◌, ℕ, zero, suc, ◌+◌, ◌*◌, ◌<◌, ◌≤◌, ◌==◌, Bool, true, false, List, [], ◌∷◌, ◌++◌, ap, arith, filter, if◌then◌else◌, length, length-append, le_trans, pred, refl, subst, sym, ⊎_elim}
use Rattle.std.specs.Prelude.{nat_le}
use Rattle.std.proofs.Math.Nat.{mul-le-mul_right, suc-mul, zero-mul}
use Rattle.gl_base.specs.declared.entries.Entry.{Entry}
use Rattle.gl_base.specs.declared.entries.Entry.TheVariants.{Go, Restart}
use Rattle.gl_base.specs.declared.jobs.FailureAt.{FailureAt}
use Rattle.call_laws.proofs.attempts.Beginning.{again_begins, longer_valid}
use Rattle.call_laws.proofs.attempts.Counting.{failed_few, fired_many}
use Rattle.call_laws.proofs.attempts.Opening.{last_begins, opening_begins}
use Rattle.call_laws.specs.attempts.Beginnings.{IsBeginning, again, held_updates, last_of, nothing, order_after}
use Rattle.call_laws.specs.attempts.EngineCalls.{AreAttempts, EngineCall, IsEngineCall, begins_behind, call_order, done_of, fired_of, last_beginning, made_in, made_of, opening, struck_in, ticket_above}
use Rattle.call_laws.specs.call_budgets.Enough.{BoundsSteps}
use Rattle.cluster_laws.specs.cluster_core.Cuts.{cut_of}
use Rattle.cluster_laws.specs.cluster_core.Ranges.{set_at}
use Rattle.cluster_laws.specs.cluster_cuts.Goings.{AreUpdatesFrom}
use Rattle.cluster_laws.specs.cluster_model.ByTicket.{restarts}
use Rattle.cluster_laws.specs.cluster_runs.Attempts.{Attempt, Beginning, IsAttempt, Shared}
use Rattle.seq_run.proofs.GoingOn.{updates_from-push, updates_from-restart, valid_append}
use Rattle.seq_run.specs.Orders.{IsValidOrder, all_tasks, tasks_after}
use Rattle.seq_run.specs.StepBound.{updates_from, updates_since_restart}
use Rattle.seq_run.specs.States.{start_state}

-- ---- updates behind the last restart

since_append : (count : ℕ) (xs ys : List Entry) → updates_from count (xs ++ ys) ≡ updates_from (updates_from count xs) ys
since_append count [] ys = refl
since_append count (Go machine vertex ticket ∷ xs) ys = since_append (count + 1) xs ys
since_append count (Restart ticket ∷ xs) ys = since_append 0 xs ys

one_by_one : (count ticket : ℕ) (made : List Entry) → AreUpdatesFrom ticket made → updates_from count made ≡ count + length made
one_by_one count ticket [] made = omega arith
one_by_one count ticket (Go machine vertex t ∷ order) made = let rest = one_by_one (count + 1) (suc ticket) order made.1 in omega (arith, rest)
one_by_one count ticket (Restart t ∷ order) made = absurd made

none_since : (n ticket : ℕ) → updates_from 0 (restarts n ticket) ≡ 0
none_since zero ticket = refl
none_since (suc n) ticket = none_since n ticket

ends_anew : (count n ticket : ℕ) → 1 ≤ n → updates_from count (restarts n ticket) ≡ 0
ends_anew count zero ticket some = absurd (omega arith)
ends_anew count (suc n) ticket some = none_since n ticket

-- no update stands behind its last restart
abbrev IsFresh : Beginning → Type 0
IsFresh b = updates_since_restart b.front ≡ 0

again_fresh : (b : Beginning) (a : Attempt) → 1 ≤ a.struck → IsFresh (again b a)
again_fresh b a some =
    since_append 0 b.front (held_updates a ++ restarts a.struck (b.next + length a.made))
    ∙ since_append (updates_from 0 b.front) (held_updates a) (restarts a.struck (b.next + length a.made))
    ∙ ends_anew (updates_from (updates_from 0 b.front) (held_updates a)) a.struck (b.next + length a.made) some

opening_fresh : (shared : Shared) (call : EngineCall) → IsEngineCall shared call → IsFresh (opening call)
opening_fresh shared call is =
    ⊎_elim
    (λ (resumed : call.resumed ≡ true).
    subst (λ (yes : Bool). updates_since_restart (call.base ++ (if yes then Restart (ticket_above call.base) ∷ [] else [])) ≡ 0) (sym resumed) (updates_from-restart 0 call.base (ticket_above call.base)))
    (λ (plain : (call.resumed ≡ false) × (call.base ≡ [])).
    subst (λ (yes : Bool). updates_since_restart (call.base ++ (if yes then Restart (ticket_above call.base) ∷ [] else [])) ≡ 0) (sym plain.0)
    (subst (λ (base : List Entry). updates_since_restart (base ++ []) ≡ 0) (sym plain.1) refl))
    is.begins

from_zero : (n : ℕ) → 0 + n ≡ n
from_zero n = omega arith

none_times : (n bound : ℕ) → n ≤ zero * bound + n
none_times n bound = let none : zero * bound ≡ 0 = zero-mul bound in omega (arith, none)

one_times : (own rest n bound last all : ℕ) → all ≡ own + rest → own ≤ bound → rest ≤ n * bound + last → all ≤ suc n * bound + last
one_times own rest n bound last all is few less = let more : suc n * bound ≡ n * bound + bound = suc-mul n bound in omega (arith, more)

pub filter_few : {X : Type 0} (test : X → Bool) (xs : List X) → length (filter test xs) ≤ length xs
filter_few test [] = omega arith
filter_few {X} test (x ∷ xs) = either (test x) (filter_few test xs)
  where
    either : (keeps : Bool) → length (filter test xs) ≤ length xs → length (if keeps then x ∷ filter test xs else filter test xs) ≤ suc (length xs)
    either true few = omega arith
    either false few = omega arith

as_many : (n ticket : ℕ) → length (restarts n ticket) ≡ n
as_many zero ticket = refl
as_many (suc n) ticket = ap (λ (k : ℕ). suc k) (as_many n ticket)

cut_short : (count : ℕ → ℕ) (order : List Entry) → length (cut_of count order) ≤ length order
cut_short count [] = omega arith
cut_short count (Restart ticket ∷ order) = longer (length (cut_of count order)) (length order) (cut_short count order)
  where
    longer : (n m : ℕ) → n ≤ m → suc n ≤ suc m
    longer n m low = omega arith
cut_short count (Go machine vertex ticket ∷ order) = either (count vertex.0 == 0) (cut_short count order) (cut_short (set_at count vertex.0 (pred (count vertex.0))) order)
  where
    either : (out : Bool) → length (cut_of count order) ≤ length order → length (cut_of (set_at count vertex.0 (pred (count vertex.0))) order) ≤ length order →
        length (if out then cut_of count order else Go machine vertex ticket ∷ cut_of (set_at count vertex.0 (pred (count vertex.0))) order) ≤ suc (length order)
    either true low less = omega arith
    either false low less = omega arith

opening_long : (base : List Entry) (resumed : Bool) → length (base ++ (if resumed then Restart (ticket_above base) ∷ [] else [])) ≤ length base + 1
opening_long base true = at_most (length (base ++ Restart (ticket_above base) ∷ [])) (length base) (length-append base (Restart (ticket_above base) ∷ []))
  where
    at_most : (all n : ℕ) → all ≡ n + 1 → all ≤ n + 1
    at_most all n is = omega arith
opening_long base false = at_most (length (base ++ [])) (length base) (length-append base [])
  where
    at_most : (all n : ℕ) → all ≡ n + 0 → all ≤ n + 1
    at_most all n is = omega arith

module _ (shared : Shared) where
  -- what was made since the attempt began
  made_since : (b : Beginning) (a : Attempt) → IsFresh b → IsAttempt shared b a → updates_since_restart (order_after b a) ≡ length a.made
  made_since b a fresh attempt =
      since_append 0 b.front a.made ∙ ap (λ (n : ℕ). updates_from n a.made) fresh ∙ one_by_one 0 b.next a.made attempt.tickets ∙ from_zero (length a.made)

  last_fresh : (b : Beginning) (failed : List Attempt) (last : Attempt) → IsFresh b → AreAttempts shared b failed last → IsFresh (begins_behind b failed)
  last_fresh b [] last fresh are = fresh
  last_fresh b (a ∷ failed) last fresh are = last_fresh (again b a) failed last (again_fresh b a are.1) are.2

  module _ (bound : ℕ) (steps : BoundsSteps shared.graph shared.program bound) where
    attempt_few : (b : Beginning) (a : Attempt) → IsBeginning shared b → IsFresh b → IsAttempt shared b a → length a.made ≤ bound
    attempt_few b a is fresh attempt = subst (λ (n : ℕ). n ≤ bound) (made_since b a fresh attempt) (steps (order_after b a) (longer_valid shared b is a.made attempt.valid))

    all_few : (b : Beginning) (failed : List Attempt) (last : Attempt) → IsBeginning shared b → IsFresh b → AreAttempts shared b failed last → length (made_in failed last) ≤ length failed * bound + length last.made
    all_few b [] last is fresh are = none_times (length last.made) bound
    all_few b (a ∷ failed) last is fresh are =
        one_times (length a.made) (length (made_in failed last)) (length failed) bound (length last.made) (length (a.made ++ made_in failed last)) (length-append a.made (made_in failed last)) (attempt_few b a is fresh are.0)
        (all_few (again b a) failed last (again_begins shared b a are.0 is are.1) (again_fresh b a are.1) are.2)

    module _ (call : EngineCall) (is : IsEngineCall shared call) where
      last_is : IsBeginning shared (last_beginning call) × IsAttempt shared (last_beginning call) call.last
      last_is = last_begins shared (opening call) call.failed call.last (opening_begins shared call is) is.attempts

      fresh_last : IsFresh (last_beginning call)
      fresh_last = last_fresh (opening call) call.failed call.last (opening_fresh shared call is) is.attempts

      made_all : length (made_of call) ≤ length call.failed * bound + length call.last.made
      made_all = all_few (opening call) call.failed call.last (opening_begins shared call is) (opening_fresh shared call is) is.attempts

      made_up : (failed failures made last : ℕ) → failed ≤ failures → made ≤ failed * bound + last → last ≤ bound → made ≤ suc failures * bound
      made_up failed failures made last few low last_low =
          let more : suc failures * bound ≡ failures * bound + bound = suc-mul failures bound in
          let wider : failed * bound ≤ failures * bound = mul-le-mul_right bound few in
          omega (arith, more, wider)

      made_under : (failed failures made last : ℕ) → failed ≤ failures → made ≤ failed * bound + last → last + 1 ≤ bound → made < suc failures * bound
      made_under failed failures made last few low last_low =
          let more : suc failures * bound ≡ failures * bound + bound = suc-mul failures bound in
          let wider : failed * bound ≤ failures * bound = mul-le-mul_right bound few in
          omega (arith, more, wider)

      one_and : (n : ℕ) → suc n ≡ 1 + n
      one_and n = omega arith

      failed_low : length call.failed ≤ length shared.failures
      failed_low = le_trans (failed_few shared call is) (filter_few (λ (failure : FailureAt). nat_le failure.after (done_of call failure.machine.0)) shared.failures)

      pub made_few : length (made_of call) ≤ (1 + length shared.failures) * bound
      made_few =
          subst (λ (n : ℕ). length (made_of call) ≤ n * bound) (one_and (length shared.failures))
          (made_up (length call.failed) (length shared.failures) (length (made_of call)) (length call.last.made) failed_low made_all (attempt_few (last_beginning call) call.last last_is.0 fresh_last last_is.1))

      -- a task that is left may be updated
      left_more : (v : ℕ) → tasks_after shared.graph shared.program (call_order call) v ≡ true → length call.last.made + 1 ≤ bound
      left_more v task =
          let next : Entry = Go (record { 0 = 0 }) (record { 0 = v }) 0 in
          let longer : IsValidOrder shared.graph shared.program (call_order call ++ next ∷ []) =
          valid_append shared.graph shared.program (start_state shared.graph shared.program) (all_tasks shared.graph) (call_order call) (next ∷ []) (longer_valid shared (last_beginning call) last_is.0 call.last.made last_is.1.valid) (task, tt) in
          subst (λ (n : ℕ). n ≤ bound)
          (updates_from-push 0 (call_order call) 0 (record { 0 = 0 }) (record { 0 = v }) ∙ ap (λ (n : ℕ). n + 1) (made_since (last_beginning call) call.last fresh_last last_is.1))
          (steps (call_order call ++ next ∷ []) longer)

      pub made_fewer : (v : ℕ) → tasks_after shared.graph shared.program (call_order call) v ≡ true → length (made_of call) < (1 + length shared.failures) * bound
      made_fewer v task =
          subst (λ (n : ℕ). length (made_of call) < n * bound) (one_and (length shared.failures))
          (made_under (length call.failed) (length shared.failures) (length (made_of call)) (length call.last.made) failed_low made_all (left_more v task))

  -- ---- entries

  front_grows : (front own held struck made rest later all struck_rest : ℕ) → front ≡ own + (held + struck) → held ≤ made → all ≡ made + rest → later ≤ front + rest + struck_rest → later ≤ own + all + (struck + struck_rest)
  front_grows front own held struck made rest later all struck_rest is few parts low = omega arith

  order_grows : (b : Beginning) (failed : List Attempt) (last : Attempt) → length (order_after (begins_behind b failed) last) ≤ length b.front + length (made_in failed last) + struck_in failed
  order_grows b [] last = plain (length (b.front ++ last.made)) (length b.front) (length last.made) (length-append b.front last.made)
    where
      plain : (all front made : ℕ) → all ≡ front + made → all ≤ front + made + 0
      plain all front made is = omega arith
  order_grows b (a ∷ failed) last =
      front_grows (length (again b a).front) (length b.front) (length (held_updates a)) a.struck (length a.made) (length (made_in failed last)) (length (order_after (begins_behind (again b a) failed) last)) (length (a.made ++ made_in failed last)) (struck_in failed)
      (length-append b.front (held_updates a ++ restarts a.struck (b.next + length a.made))
      ∙ ap (λ (n : ℕ). length b.front + n) (length-append (held_updates a) (restarts a.struck (b.next + length a.made)) ∙ ap (λ (n : ℕ). length (held_updates a) + n) (as_many a.struck (b.next + length a.made))))
      (cut_short (last_of nothing a.kept) a.made) (length-append a.made (made_in failed last)) (order_grows (again b a) failed last)

  front_first : (all front base made struck fired failures : ℕ) → all ≤ front + made + struck → front ≤ base + 1 → struck ≤ fired → fired ≤ failures → all ≤ base + 1 + made + failures
  front_first all front base made struck fired failures low first few less = omega arith

  pub order_few : (call : EngineCall) → IsEngineCall shared call → length (call_order call) ≤ length call.base + 1 + length (made_of call) + length shared.failures
  order_few call is =
      front_first (length (call_order call)) (length (opening call).front) (length call.base) (length (made_of call)) (struck_in call.failed) (length (fired_of shared call)) (length shared.failures)
      (order_grows (opening call) call.failed call.last) (opening_long call.base call.resumed)
      (before_all (length (fired_of shared call)) (struck_in call.failed) call.last.struck (fired_many shared call is))
      (filter_few (λ (failure : FailureAt). nat_le failure.after (done_of call failure.machine.0)) shared.failures)
    where
      before_all : (fired before last : ℕ) → fired ≡ before + last → before ≤ fired
      before_all fired before last is = omega arith
