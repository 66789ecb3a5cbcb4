-- The call of the machine is the event of the cluster.
use Rattle.std.proofs.Common.{refl}
use Rattle.cluster_step.proofs.clusters.Answering.{admit_answers}
use Rattle.cluster_step.proofs.clusters.parts.Parts.admit.Goals as goal

pub returns : goal.returns
returns g c =
    admit_answers g.M.SavingMachine.represents c.args.self.now c.requires.runs c.args.at.0 c.requires.within c.requires.awake c.index_mut.result.now c.index_mut.ensures.value
    c.args.at refl c.admit.result c.admit.new.self c.admit.ensures.admitted c.admit.ensures.not_now c.admit.ensures.no_memory c.admit.ensures.unchanged
