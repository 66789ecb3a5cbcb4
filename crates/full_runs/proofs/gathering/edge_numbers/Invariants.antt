use Rattle.cluster_laws.specs.cluster_core.Copies.{from_owner}
use Rattle.seq_run.specs.Runs.{AreNumbers}
use Rattle.cluster_laws.specs.cluster_core.Settings.{Setting}
use Rattle.full_scope.specs.FullUpdates.{FullUpdate}
use Rattle.full_laws.specs.FullWorlds.{FullWorld}
use Rattle.full_laws.specs.Items.{AnEdge}
use Rattle.full_cluster.specs.FullClusters.{IsClusterOf}
use Rattle.full_cluster.specs.Given.{IsDividedAs}
use Rattle.full_runs.proofs.gathering.edge_numbers.Given as goal

abbrev pub invariant-loop-e : goal.invariant-loop-e
invariant-loop-e l = (st : Setting) (p : FullUpdate) (w : FullWorld) → IsDividedAs st l.division → IsClusterOf st p w l.cluster →
    AreNumbers l.e (λ e. (w.part (from_owner st e)).number (AnEdge e)) l.all.items
