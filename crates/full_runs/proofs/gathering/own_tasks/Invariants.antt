use Rattle.std.proofs.Common.{◌≡◌, ℕ, ◌&&◌, nat_lt, length}
use Rattle.graph_core.specs.DataGraph.{size}
use Rattle.task_sets.specs.vertex_queue.Flags.{is_flagged}
use Rattle.cluster_laws.specs.cluster_core.Settings.{Setting}
use Rattle.full_scope.specs.FullUpdates.{FullUpdate}
use Rattle.full_laws.specs.FullWorlds.{FullWorld}
use Rattle.full_cluster.specs.FullClusters.{IsClusterOf}
use Rattle.full_cluster.specs.Given.{IsDividedAs}
use Rattle.full_runs.proofs.gathering.own_tasks.Given as goal

abbrev pub invariant-loop-v : goal.invariant-loop-v
invariant-loop-v l =
    record {
      count : length l.tasks ≡ size l.division.graph.now;
      flags : (st : Setting) (p : FullUpdate) (w : FullWorld) → IsDividedAs st l.division → IsClusterOf st p w l.cluster →
          (u : ℕ) → is_flagged l.tasks u ≡ (nat_lt u l.v && (w.part (st.owner u)).task u);
    }
