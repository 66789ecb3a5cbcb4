use Rattle.std.proofs.Common.{◌≡◌, ℕ, ◌<◌, []}
use Rattle.cluster_laws.specs.cluster_core.Settings.{Setting}
use Rattle.full_scope.specs.FullUpdates.{FullUpdate}
use Rattle.full_laws.specs.FullWorlds.{FullWorld, full_way}
use Rattle.full_cluster.specs.FullClusters.{IsClusterOf}
use Rattle.full_runs.proofs.quiet.is_silent.Given as goal

abbrev pub invariant-loop-q : goal.invariant-loop-q
invariant-loop-q l = (st : Setting) (p : FullUpdate) (w : FullWorld) → IsClusterOf st p w l.cluster → (q : ℕ) → q < l.q → full_way w l.a.0 q ≡ []
