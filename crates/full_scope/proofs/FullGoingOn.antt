-- Orders that go on: what one more entry at the end makes of numbers and tasks.
use Rattle.std.proofs.Common.{◌≡◌, ℕ, Bool, List, [], ◌∷◌, ◌++◌, refl}
use Rattle.gl_base.specs.declared.entries.Entry.{Entry}
use Rattle.graph_core.specs.DataGraph.{DataGraph}
use Rattle.seq_run.specs.States.{GraphState}
use Rattle.full_scope.specs.FullUpdates.{FullUpdate}
use Rattle.full_scope.specs.FullOrders.{full_entry, full_replay_from, full_tasks_entry, full_tasks_from, IsFullyValidFrom}

module _ (g : DataGraph) (p : FullUpdate) where
  pub full_replay_from-append : (s : GraphState) (order more : List Entry) → full_replay_from g p s (order ++ more) ≡ full_replay_from g p (full_replay_from g p s order) more
  full_replay_from-append s [] more = refl
  full_replay_from-append s (entry ∷ order) more = full_replay_from-append (full_entry g p s entry) order more

  pub full_tasks_from-append : (s : GraphState) (tasks : ℕ → Bool) (order more : List Entry) → full_tasks_from g p s tasks (order ++ more) ≡ full_tasks_from g p (full_replay_from g p s order) (full_tasks_from g p s tasks order) more
  full_tasks_from-append s tasks [] more = refl
  full_tasks_from-append s tasks (entry ∷ order) more = full_tasks_from-append (full_entry g p s entry) (full_tasks_entry g p s tasks entry) order more

  pub fully_valid-append : (s : GraphState) (tasks : ℕ → Bool) (order more : List Entry) → IsFullyValidFrom g p s tasks order → IsFullyValidFrom g p (full_replay_from g p s order) (full_tasks_from g p s tasks order) more → IsFullyValidFrom g p s tasks (order ++ more)
  fully_valid-append s tasks [] more valid rest = rest
  fully_valid-append s tasks (entry ∷ order) more valid rest = (valid.0, fully_valid-append (full_entry g p s entry) (full_tasks_entry g p s tasks entry) order more valid.1 rest)

  pub fully_valid-front : (s : GraphState) (tasks : ℕ → Bool) (order more : List Entry) → IsFullyValidFrom g p s tasks (order ++ more) → IsFullyValidFrom g p s tasks order
  fully_valid-front s tasks [] more valid = tt
  fully_valid-front s tasks (entry ∷ order) more valid = (valid.0, fully_valid-front (full_entry g p s entry) (full_tasks_entry g p s tasks entry) order more valid.1)

  pub fully_valid-back : (s : GraphState) (tasks : ℕ → Bool) (order more : List Entry) → IsFullyValidFrom g p s tasks (order ++ more) → IsFullyValidFrom g p (full_replay_from g p s order) (full_tasks_from g p s tasks order) more
  fully_valid-back s tasks [] more valid = valid
  fully_valid-back s tasks (entry ∷ order) more valid = fully_valid-back (full_entry g p s entry) (full_tasks_entry g p s tasks entry) order more valid.1
