-- Orders of updates that may write their neighbours too, replayed one entry at a time on the undivided graph.
use Rattle.std.specs.Prelude.{◌≡◌, ℕ, ◌<◌, Bool, false, not, ◌==◌, ◌&&◌, ◌||◌, List, [], ◌∷◌, ⊤}
use Rattle.gl_base.specs.declared.entries.Entry.{Entry}
use Rattle.gl_base.specs.declared.entries.Entry.TheVariants.{Go, Restart}
use Rattle.graph_core.specs.DataGraph.{DataGraph, size}
use Rattle.seq_run.specs.States.{GraphState}
use Rattle.seq_run.specs.Orders.{all_tasks, MayCome}
use Rattle.full_scope.specs.FullUpdates.{FullUpdate}
use Rattle.full_scope.specs.FullStates.{full_start, after_full, full_wakes}

-- an update changes the numbers, and a restart changes none
abbrev pub full_entry : DataGraph → FullUpdate → GraphState → Entry → GraphState
full_entry g p s (Go machine vertex ticket) = after_full g p s vertex.0
full_entry g p s (Restart ticket) = s

-- the numbers after the entries, one after another
abbrev pub full_replay_from : DataGraph → FullUpdate → GraphState → List Entry → GraphState
full_replay_from g p s [] = s
full_replay_from g p s (entry ∷ order) = full_replay_from g p (full_entry g p s entry) order

-- the numbers after an order, from the start on
abbrev pub full_replay : DataGraph → FullUpdate → List Entry → GraphState
full_replay g p order = full_replay_from g p (full_start g p) order

-- an update takes its vertex out of the tasks and adds those that it wakes; a restart makes every vertex a task
abbrev pub full_tasks_entry : DataGraph → FullUpdate → GraphState → (ℕ → Bool) → Entry → ℕ → Bool
full_tasks_entry g p s tasks (Go machine vertex ticket) u = full_wakes g p s vertex.0 u || (tasks u && not (u == vertex.0))
full_tasks_entry g p s tasks (Restart ticket) u = all_tasks g u

-- the tasks after the entries, one after another
abbrev pub full_tasks_from : DataGraph → FullUpdate → GraphState → (ℕ → Bool) → List Entry → ℕ → Bool
full_tasks_from g p s tasks [] = tasks
full_tasks_from g p s tasks (entry ∷ order) = full_tasks_from g p (full_entry g p s entry) (full_tasks_entry g p s tasks entry) order

-- the tasks after an order; at first every vertex is one
abbrev pub full_tasks_after : DataGraph → FullUpdate → List Entry → ℕ → Bool
full_tasks_after g p order = full_tasks_from g p (full_start g p) (all_tasks g) order

-- no task is left after the order
abbrev pub IsFullyFinished : DataGraph → FullUpdate → List Entry → Type 0
IsFullyFinished g p order = (u : ℕ) → u < size g → full_tasks_after g p order u ≡ false

-- each entry may come where it stands
abbrev pub IsFullyValidFrom : DataGraph → FullUpdate → GraphState → (ℕ → Bool) → List Entry → Type 0
IsFullyValidFrom g p s tasks [] = ⊤
IsFullyValidFrom g p s tasks (entry ∷ order) =
    MayCome tasks entry × IsFullyValidFrom g p (full_entry g p s entry) (full_tasks_entry g p s tasks entry) order

-- each update of the order finds its vertex among the tasks
abbrev pub IsFullyValid : DataGraph → FullUpdate → List Entry → Type 0
IsFullyValid g p order = IsFullyValidFrom g p (full_start g p) (all_tasks g) order
