use Rattle.std.proofs.Common.{◌≡◌, map}
use Rattle.std.specs.List.{range_with_len}
use Rattle.cluster_laws.specs.cluster_core.Settings.{Setting}
use Rattle.cluster_laws.specs.merged_logs.Merges.{all_logged}
use Rattle.full_scope.specs.FullUpdates.{FullUpdate}
use Rattle.full_laws.specs.FullWorlds.{FullWorld}
use Rattle.full_cluster.specs.FullClusters.{IsClusterOf}
use Rattle.full_runs.proofs.gathering.all_logs.Given as goal

abbrev pub invariant-loop-a : goal.invariant-loop-a
invariant-loop-a l = (st : Setting) (p : FullUpdate) (w : FullWorld) → IsClusterOf st p w l.cluster → st.machines ≡ l.machines →
    l.all.items ≡ all_logged (map (λ a. (w.part a).log) (range_with_len 0 l.a))
