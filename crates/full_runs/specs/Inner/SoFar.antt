-- What a run has so far.
use Rattle.std.specs.List.{list_any}
use Rattle.std.specs.Prelude.{◌≡◌, ℕ, ◌<◌, ◌==◌, ◌&&◌, Bool, List, length}
use Rattle.gl_base.specs.declared.entries.Entry.{Entry}
use Rattle.graph_core.specs.declared.halves.Half.{Half}
use Rattle.graph_core.specs.DataGraph.{DataGraph, IsDataGraph, size}
use Rattle.seq_run.specs.Inner.Waking.{is_woken_along}
use Rattle.task_sets.specs.vertex_queue.Flags.{is_flagged}
use Rattle.update_api.specs.declared.woken.Woken.{Woken}
use Rattle.full_scope.specs.FullOrders.{full_tasks_after}
use Rattle.full_scope.specs.FullUpdates.{FullUpdate}
use Rattle.full_runs.specs.FullEnds.{IsFullPlay}

-- u is woken along one of these half-edges
abbrev pub is_woken_by : Woken → List Half → ℕ → Bool
is_woken_by woken halves u = list_any (λ (h : Half). is_woken_along woken h.out && h.other.0 == u) halves

-- The numbers are those of the replay of the order, and the flags say which vertices are tasks.
pub record AreSoFar (g : DataGraph) (p : FullUpdate) (owner : ℕ → ℕ) (order : List Entry) (values edges : List ℕ) (tasks : List Bool) : Type 0 where
  pub graph : IsDataGraph g
  pub play : IsFullPlay g p owner order values edges
  pub count : length tasks ≡ size g
  pub tasks_are : (u : ℕ) → u < size g → is_flagged tasks u ≡ full_tasks_after g p order u
