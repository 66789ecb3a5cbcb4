-- The machine fails as in the law.
use Rattle.std.proofs.Common.{refl, rules}
use Rattle.cluster_step.proofs.clusters.Answering.{fail_answers}
use Rattle.cluster_step.proofs.clusters.parts.Parts.fail.Goals as goal

pub returns : goal.returns
returns g c =
    fail_answers g.M.SavingMachine.represents c.args.self.now c.requires.runs c.args.at.0 c.requires.within c.requires.awake c.index_mut.result.now c.index_mut.ensures.value
    c.args.at refl c.fail.new.self c.fail.ensures _ (search rules)
