-- The tickets that are left are those of the world.
use Rattle.std.proofs.Common.{sym}
use Rattle.full_cluster.proofs.clusters.FullCluster.tickets_left.Goals as goal

pub returns : goal.returns
returns c = λ st p w are. sym are.tickets
