-- The waves have shown the end.
use Rattle.std.proofs.Common.{sym, subst}
use Rattle.cluster_step.specs.clusters.Clusters.{IsSavingClusterOf}
use Rattle.cluster_step.proofs.clusters.clusters.SnapCluster.has_seen_the_end.Goals as goal

pub returns : goal.returns
returns g c = λ yes st own setting of.
    let here = subst (λ p. IsSavingClusterOf g.M.SavingMachine.represents st p own) (sym c.self.view_is) of in
    c.has_seen_the_end.ensures yes st own.coordinator here.coordinator
