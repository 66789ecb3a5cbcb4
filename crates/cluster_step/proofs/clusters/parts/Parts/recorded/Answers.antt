-- There is room for it.
use Rattle.cluster_step.proofs.clusters.Acknowledging.{acknowledged_so}
use Rattle.cluster_step.proofs.clusters.parts.Parts.recorded.Goals as goal

pub returns-clause-made : goal.returns-clause-made
returns-clause-made g c = acknowledged_so g.M.SavingMachine.represents c.args.self.now c.args.number c.requires c.recorded.new.self c.recorded.ensures

pub recorded-requires : goal.recorded-requires
recorded-requires g c = c.requires.ready
