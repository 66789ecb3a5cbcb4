-- What the parts do, the cluster does.
use Rattle.cluster_step.proofs.clusters.Acknowledging.{some_behind}
use Rattle.cluster_step.proofs.clusters.clusters.SnapCluster.acknowledge.Goals as goal

pub invariant_of-self : goal.invariant_of-self
invariant_of-self g c = some_behind g.M.SavingMachine.represents c.self.inside.parts c.recorded.new.self c.self.invariant c.recorded.ensures.made
