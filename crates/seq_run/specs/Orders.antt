-- Orders of updates, replayed one entry at a time on the undivided graph.
use Rattle.std.specs.Prelude.{◌≡◌, ℕ, ◌<◌, Bool, true, false, not, ◌==◌, ◌&&◌, ◌||◌, nat_lt, List, [], ◌∷◌, ⊤}
use Rattle.gl_base.specs.declared.entries.Entry.{Entry}
use Rattle.gl_base.specs.declared.entries.Entry.TheVariants.{Go, Restart}
use Rattle.graph_core.specs.DataGraph.{DataGraph, size}
use Rattle.update_api.specs.Updates.{Update}
use Rattle.seq_run.specs.States.{GraphState, start_state, after_update, wakes}

-- an update changes the numbers, and a restart changes none
abbrev pub after_entry : DataGraph → Update → GraphState → Entry → GraphState
after_entry g p s (Go machine vertex ticket) = after_update g p s vertex.0
after_entry g p s (Restart ticket) = s

-- the numbers after the entries, one after another
abbrev pub replay_from : DataGraph → Update → GraphState → List Entry → GraphState
replay_from g p s [] = s
replay_from g p s (entry ∷ order) = replay_from g p (after_entry g p s entry) order

-- the numbers after an order, from the start state on
abbrev pub replay : DataGraph → Update → List Entry → GraphState
replay g p order = replay_from g p (start_state g p) order

-- every vertex is a task
abbrev pub all_tasks : DataGraph → ℕ → Bool
all_tasks g u = nat_lt u (size g)

-- an update takes its vertex out of the tasks and adds those that it wakes; a restart makes every vertex a task
abbrev pub tasks_after_entry : DataGraph → Update → GraphState → (ℕ → Bool) → Entry → ℕ → Bool
tasks_after_entry g p s tasks (Go machine vertex ticket) u = wakes g p s vertex.0 u || (tasks u && not (u == vertex.0))
tasks_after_entry g p s tasks (Restart ticket) u = all_tasks g u

-- the tasks after the entries, one after another
abbrev pub tasks_from : DataGraph → Update → GraphState → (ℕ → Bool) → List Entry → ℕ → Bool
tasks_from g p s tasks [] = tasks
tasks_from g p s tasks (entry ∷ order) = tasks_from g p (after_entry g p s entry) (tasks_after_entry g p s tasks entry) order

-- the tasks after an order; at first every vertex is one
abbrev pub tasks_after : DataGraph → Update → List Entry → ℕ → Bool
tasks_after g p order = tasks_from g p (start_state g p) (all_tasks g) order

-- no task is left after the order
abbrev pub IsFinished : DataGraph → Update → List Entry → Type 0
IsFinished g p order = (u : ℕ) → u < size g → tasks_after g p order u ≡ false

-- an update needs its vertex among the tasks, and a restart may always come
abbrev pub MayCome : (ℕ → Bool) → Entry → Type 0
MayCome tasks (Go machine vertex ticket) = tasks vertex.0 ≡ true
MayCome tasks (Restart ticket) = ⊤

-- each entry may come where it stands
abbrev pub IsValidFrom : DataGraph → Update → GraphState → (ℕ → Bool) → List Entry → Type 0
IsValidFrom g p s tasks [] = ⊤
IsValidFrom g p s tasks (entry ∷ order) =
    MayCome tasks entry × IsValidFrom g p (after_entry g p s entry) (tasks_after_entry g p s tasks entry) order

-- each update of the order finds its vertex among the tasks
abbrev pub IsValidOrder : DataGraph → Update → List Entry → Type 0
IsValidOrder g p order = IsValidFrom g p (start_state g p) (all_tasks g) order
