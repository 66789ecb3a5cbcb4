use Rattle.std.proofs.Common.{◌≡◌, ℕ, ◌<◌, []}
use Rattle.cluster_laws.specs.cluster_core.Settings.{Setting}
use Rattle.full_scope.specs.FullUpdates.{FullUpdate}
use Rattle.full_laws.specs.FullWorlds.{FullWorld, full_way}
use Rattle.full_cluster.specs.FullClusters.{IsClusterOf}
use Rattle.full_runs.proofs.quiet.is_quiet.Given as goal

abbrev pub invariant-loop-a : goal.invariant-loop-a
invariant-loop-a l = (st : Setting) (p : FullUpdate) (w : FullWorld) → IsClusterOf st p w l.cluster → (a : ℕ) → a < l.a → (q : ℕ) → q < l.machines → full_way w a q ≡ []
