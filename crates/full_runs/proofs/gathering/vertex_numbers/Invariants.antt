use Rattle.seq_run.specs.Runs.{AreNumbers}
use Rattle.cluster_laws.specs.cluster_core.Settings.{Setting}
use Rattle.full_scope.specs.FullUpdates.{FullUpdate}
use Rattle.full_laws.specs.FullWorlds.{FullWorld}
use Rattle.full_laws.specs.Items.{AVertex}
use Rattle.full_cluster.specs.FullClusters.{IsClusterOf}
use Rattle.full_cluster.specs.Given.{IsDividedAs}
use Rattle.full_runs.proofs.gathering.vertex_numbers.Given as goal

abbrev pub invariant-loop-v : goal.invariant-loop-v
invariant-loop-v l = (st : Setting) (p : FullUpdate) (w : FullWorld) → IsDividedAs st l.division → IsClusterOf st p w l.cluster →
    AreNumbers l.v (λ v. (w.part (st.owner v)).number (AVertex v)) l.all.items
