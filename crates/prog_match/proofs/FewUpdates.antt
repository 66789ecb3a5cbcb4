-- Nobody is woken, so each update leaves one task less.
use Rattle.std.proofs.Common.{◌≡◌, ℕ, ◌+◌, ◌<◌, ◌≤◌, ◌==◌, not, Bool, true, false, List, [], ◌∷◌, refl, arith, eq-eqb, ltb-true}
use Rattle.std.proofs.lemmas.Bool.{and_parts}
use Rattle.gl_base.specs.declared.entries.Entry.{Entry}
use Rattle.gl_base.specs.declared.entries.Entry.TheVariants.{Go, Restart}
use Rattle.graph_core.specs.DataGraph.{DataGraph, size}
use Rattle.seq_run.specs.Orders.{all_tasks}
use Rattle.seq_run.specs.States.{GraphState}
use Rattle.seq_run.specs.StepBound.{updates_from}
use Rattle.seq_run.proofs.Sums.{count_below, count_below-le, count_below-less}
use Rattle.full_scope.specs.FullOrders.{full_entry, full_tasks_entry, IsFullyValidFrom}
use Rattle.prog_match.specs.Pairs.{update_of_pairs}

-- the updates so far and the tasks that are left are no more than the vertices
pub few_from : (g : DataGraph) (s : GraphState) (tasks : ℕ → Bool) (count : ℕ) (order : List Entry) → ((u : ℕ) → tasks u ≡ true → u < size g) →
    IsFullyValidFrom g update_of_pairs s tasks order → count + count_below tasks (size g) ≤ size g → updates_from count order ≤ size g
few_from g s tasks count [] within valid few = omega arith
few_from g s tasks count (Restart ticket ∷ order) within valid few =
    let all = count_below-le (all_tasks g) (size g) in
    few_from g s (all_tasks g) 0 order (λ u task. ltb-true u (size g) task) valid.1 (omega arith)
few_from g s tasks count (Go machine vertex ticket ∷ order) within valid few =
    let v = vertex.0 in
    let left : ℕ → Bool = full_tasks_entry g update_of_pairs s tasks (Go machine vertex ticket) in
    let task : tasks v ≡ true = valid.0 in
    let here : (v == v) ≡ true = eq-eqb v v refl in
    let none : left v ≡ false = rw (task, here) refl in
    let less = count_below-less left tasks v (size g) (within v task) (λ u u_within is. (and_parts (tasks u) (not (u == v)) is).0) none task in
    few_from g (full_entry g update_of_pairs s (Go machine vertex ticket)) left (count + 1) order (λ u is. within u (and_parts (tasks u) (not (u == v)) is).0) valid.1 (omega arith)
