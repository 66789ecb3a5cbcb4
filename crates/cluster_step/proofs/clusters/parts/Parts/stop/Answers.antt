-- The run has ended.
use Rattle.cluster_step.proofs.clusters.Leading.{stop_answers}
use Rattle.cluster_step.proofs.clusters.parts.Parts.stop.Goals as goal

pub returns : goal.returns
returns g c = stop_answers g.M.SavingMachine.represents c.args.self.now c.requires.runs
