-- Where the end is due the order is finished.
use Rattle.std.proofs.Common.{subst, sym}
use Rattle.cluster_step.specs.clusters.Clusters.{IsSavingClusterOf}
use Rattle.cluster_step.proofs.clusters.Cutting.{finished}
use Rattle.cluster_step.proofs.clusters.clusters.SnapCluster.due.Goals as goal

pub returns-clause-ended : goal.returns-clause-ended
returns-clause-ended g c = λ ended st own setting of.
    finished g.M.SavingMachine.represents c.self.inside.parts st own setting (subst (λ p. IsSavingClusterOf g.M.SavingMachine.represents st p own) (sym c.self.view_is) of) c.due.result c.due.ensures.due ended
