-- What a run leaves whose updates may write their neighbours too.
pub use Rattle.cluster_laws.specs.cluster_cuts.Goings.{AreUpdatesFrom, IsByOwner}
pub use Rattle.cluster_laws.specs.merged_logs.Merges.{is_of}
use Rattle.std.specs.List.{AllByRecursion}
use Rattle.std.specs.Prelude.{◌≡◌, ℕ, ◌<◌, ◌≤◌, true, List, length, Option, MatchOption}
use Rattle.gl_base.specs.declared.entries.Entry.{Entry}
use Rattle.gl_base.specs.declared.numbers.Vertex.{Vertex}
use Rattle.graph_core.specs.DataGraph.{DataGraph, size}
use Rattle.seq_run.specs.Runs.{AreNumbers}
use Rattle.full_scope.specs.FullOrders.{full_replay, full_tasks_after, IsFullyFinished, IsFullyValid}
use Rattle.full_scope.specs.FullUpdates.{FullUpdate}

-- The order is valid, its tickets are 0, 1, 2 and so on, the owner of its vertex made each update, and its replay gives the
-- numbers of vertices and edges.
pub record IsFullPlay (g : DataGraph) (p : FullUpdate) (owner : ℕ → ℕ) (order : List Entry) (values edges : List ℕ) : Type 0 where
  pub valid : IsFullyValid g p order
  pub tickets : AreUpdatesFrom 0 order
  pub owners : AllByRecursion (IsByOwner owner) order
  pub values_are : AreNumbers (size g) (full_replay g p order).vertex values
  pub edges_are : AreNumbers (length g.edges) (full_replay g p order).edge edges

-- So many updates were made as the budget has, and the vertex is a task all the same.
pub record IsFullySpent (g : DataGraph) (p : FullUpdate) (budget : ℕ) (order : List Entry) (left : Vertex) : Type 0 where
  pub spent : length order ≡ budget
  pub inside : left.0 < size g
  pub task : full_tasks_after g p order left.0 ≡ true

-- A run of no more updates than the budget has: it left no task, or its budget is spent.
pub record RunsFullyTo (g : DataGraph) (p : FullUpdate) (owner : ℕ → ℕ) (budget : ℕ) (order : List Entry) (values edges : List ℕ) (left : Option Vertex) : Type 0 where
  pub play : IsFullPlay g p owner order values edges
  pub few : length order ≤ budget
  pub ended : MatchOption left (IsFullyFinished g p order) (IsFullySpent g p budget order)
