-- The logs are one order.
use Rattle.cluster_step.proofs.clusters.Ordering.{one_order}
use Rattle.cluster_step.proofs.clusters.clusters.SnapCluster.log.Goals as goal

pub returns-clause-order : goal.returns-clause-order
returns-clause-order g c = λ st own setting of. one_order st setting own of.going
