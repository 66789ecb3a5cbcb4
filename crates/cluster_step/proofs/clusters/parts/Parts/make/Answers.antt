-- After the end nothing happens, nor at a machine that has failed; else it is a machine's, the coordinator's or a link's part.
use Rattle.std.proofs.Common.{◌∙◌, sym}
use Rattle.cluster_step.proofs.clusters.Answering.{few_here, flags_here, rest_answers, stopped_answers}
use Rattle.cluster_step.proofs.clusters.parts.Parts.make.Goals as goal
use Rattle.cluster_step.proofs.clusters.parts.Parts.make.Goals.{then-self-via-then-self, then-self-via-else-self+then-rests}

pub returns-then-self : goal.returns-then-self
returns-then-self g c = elim c.then-self.branch [
  | then-self-via-then-self w ↦ stopped_answers g.M.SavingMachine.represents c.args.self.now c.args.event w.if-self.true
  | then-self-via-else-self+then-rests w ↦ rest_answers g.M.SavingMachine.represents c.args.self.now c.args.event (sym w.rests.ensures ∙ w.if-rests.true)
]

pub make_local-requires-clause-few : goal.make_local-requires-clause-few
make_local-requires-clause-few g c = few_here g.M.SavingMachine.represents c.args.self.now c.requires.some

pub make_local-requires-clause-flags : goal.make_local-requires-clause-flags
make_local-requires-clause-flags g c = flags_here g.M.SavingMachine.represents c.args.self.now c.requires.some
