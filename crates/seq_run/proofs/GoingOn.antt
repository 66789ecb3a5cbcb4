-- Orders that go on: what one more entry at the end makes of numbers and tasks.
use Rattle.std.proofs.Common.{◌≡◌, ℕ, ◌+◌, ◌<◌, ◌==◌, ◌&&◌, not, Bool, true, List, [], ◌∷◌, ◌++◌, refl, ⊎_elim, ltb-true}
use Rattle.std.proofs.lemmas.Bool.{or_cases, and_parts}
use Rattle.gl_base.specs.declared.entries.Entry.{Entry}
use Rattle.gl_base.specs.declared.entries.Entry.TheVariants.{Go, Restart}
use Rattle.gl_base.specs.declared.numbers.MachineNo.{MachineNo}
use Rattle.gl_base.specs.declared.numbers.Vertex.{Vertex}
use Rattle.graph_core.specs.DataGraph.{DataGraph, size, IsDataGraph}
use Rattle.update_api.specs.Updates.{Update}
use Rattle.seq_run.specs.States.{GraphState, start_state, wakes}
use Rattle.seq_run.specs.Orders.{after_entry, replay_from, all_tasks, tasks_after_entry, tasks_from, tasks_after, IsValidFrom}
use Rattle.seq_run.specs.StepBound.{updates_from}
use Rattle.seq_run.proofs.Waking.{wakes-within}

module _ (g : DataGraph) (p : Update) where
  pub replay_from-append : (s : GraphState) (order more : List Entry) → replay_from g p s (order ++ more) ≡ replay_from g p (replay_from g p s order) more
  replay_from-append s [] more = refl
  replay_from-append s (entry ∷ order) more = replay_from-append (after_entry g p s entry) order more

  pub tasks_from-append : (s : GraphState) (tasks : ℕ → Bool) (order more : List Entry) → tasks_from g p s tasks (order ++ more) ≡ tasks_from g p (replay_from g p s order) (tasks_from g p s tasks order) more
  tasks_from-append s tasks [] more = refl
  tasks_from-append s tasks (entry ∷ order) more = tasks_from-append (after_entry g p s entry) (tasks_after_entry g p s tasks entry) order more

  pub valid_append : (s : GraphState) (tasks : ℕ → Bool) (order more : List Entry) → IsValidFrom g p s tasks order → IsValidFrom g p (replay_from g p s order) (tasks_from g p s tasks order) more → IsValidFrom g p s tasks (order ++ more)
  valid_append s tasks [] more valid rest = rest
  valid_append s tasks (entry ∷ order) more valid rest = (valid.0, valid_append (after_entry g p s entry) (tasks_after_entry g p s tasks entry) order more valid.1 rest)

  pub valid_front : (s : GraphState) (tasks : ℕ → Bool) (order more : List Entry) → IsValidFrom g p s tasks (order ++ more) → IsValidFrom g p s tasks order
  valid_front s tasks [] more valid = tt
  valid_front s tasks (entry ∷ order) more valid = (valid.0, valid_front (after_entry g p s entry) (tasks_after_entry g p s tasks entry) order more valid.1)

  pub valid_back : (s : GraphState) (tasks : ℕ → Bool) (order more : List Entry) → IsValidFrom g p s tasks (order ++ more) → IsValidFrom g p (replay_from g p s order) (tasks_from g p s tasks order) more
  valid_back s tasks [] more valid = valid
  valid_back s tasks (entry ∷ order) more valid = valid_back (after_entry g p s entry) (tasks_after_entry g p s tasks entry) order more valid.1

  -- tasks are vertices
  tasks_from-within : IsDataGraph g → (s : GraphState) (tasks : ℕ → Bool) (order : List Entry) → ((u : ℕ) → tasks u ≡ true → u < size g) → (u : ℕ) → tasks_from g p s tasks order u ≡ true → u < size g
  tasks_from-within is s tasks [] within u task = within u task
  tasks_from-within is s tasks (Restart ticket ∷ order) within u task = tasks_from-within is s (all_tasks g) order (λ u task. ltb-true u (size g) task) u task
  tasks_from-within is s tasks (Go machine vertex ticket ∷ order) within u task =
      tasks_from-within is (after_entry g p s (Go machine vertex ticket)) (tasks_after_entry g p s tasks (Go machine vertex ticket)) order
      (λ u task. ⊎_elim
      (λ (woken : wakes g p s vertex.0 u ≡ true). wakes-within g is p s vertex.0 u woken)
      (λ (was : (tasks u && not (u == vertex.0)) ≡ true). within u (and_parts (tasks u) (not (u == vertex.0)) was).0)
      (or_cases (wakes g p s vertex.0 u) (tasks u && not (u == vertex.0)) task))
      u task

  pub tasks_within : IsDataGraph g → (order : List Entry) (u : ℕ) → tasks_after g p order u ≡ true → u < size g
  tasks_within is order u task = tasks_from-within is (start_state g p) (all_tasks g) order (λ u task. ltb-true u (size g) task) u task

pub updates_from-push : (count : ℕ) (order : List Entry) (ticket : ℕ) (machine : MachineNo) (vertex : Vertex) → updates_from count (order ++ Go machine vertex ticket ∷ []) ≡ updates_from count order + 1
updates_from-push count [] ticket machine vertex = refl
updates_from-push count (Restart other ∷ order) ticket machine vertex = updates_from-push 0 order ticket machine vertex
updates_from-push count (Go its_machine its_vertex other ∷ order) ticket machine vertex = updates_from-push (count + 1) order ticket machine vertex

pub updates_from-restart : (count : ℕ) (order : List Entry) (ticket : ℕ) → updates_from count (order ++ Restart ticket ∷ []) ≡ 0
updates_from-restart count [] ticket = refl
updates_from-restart count (Restart other ∷ order) ticket = updates_from-restart 0 order ticket
updates_from-restart count (Go its_machine its_vertex other ∷ order) ticket = updates_from-restart (count + 1) order ticket
