-- What the lists of a run hold after its order.
use Rattle.std.specs.Prelude.{◌≡◌, ℕ, Bool, List, length}
use Rattle.gl_base.specs.declared.entries.Entry.{Entry}
use Rattle.graph_core.specs.DataGraph.{DataGraph, size, IsDataGraph}
use Rattle.update_api.specs.Updates.{Update}
use Rattle.seq_run.specs.Orders.{replay, tasks_after, IsValidOrder}
use Rattle.seq_run.specs.Runs.{IsUpdates, AreNumbers}
use Rattle.seq_run.specs.Inner.TaskQueues.{flag}

-- the flags say which vertices are tasks
pub record AreTasks (n : ℕ) (task : ℕ → Bool) (flags : List Bool) : Type 0 where
  pub count : length flags ≡ n
  pub each : (u : ℕ) → flag flags u ≡ task u

-- the order is valid and of updates alone, and the lists are the numbers and the tasks that it leads to
pub record IsStateAfter (g : DataGraph) (p : Update) (order : List Entry) (vertex_numbers edge_numbers : List ℕ) (flags : List Bool) : Type 0 where
  pub graph : IsDataGraph g
  pub valid : IsValidOrder g p order
  pub alone : IsUpdates order
  pub values : AreNumbers (size g) (replay g p order).vertex vertex_numbers
  pub edges : AreNumbers (length g.edges) (replay g p order).edge edge_numbers
  pub tasks : AreTasks (size g) (tasks_after g p order) flags
