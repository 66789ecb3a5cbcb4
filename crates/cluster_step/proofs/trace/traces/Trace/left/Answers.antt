-- The budget is the tickets that are left and the updates that were made.
use Rattle.cluster_step.proofs.trace.Calling.{left_is}
use Rattle.cluster_step.proofs.trace.traces.Trace.left.Goals as goal

pub returns : goal.returns
returns g c = left_is g.M.SavingMachine.represents _ c.args.self.now c.self.view_is c.left.result c.left.ensures
