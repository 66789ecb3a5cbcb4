-- The cluster is remembered.
use Rattle.cluster_step.proofs.trace.Going.{kept_anew}
use Rattle.cluster_step.proofs.trace.traces.Trace.remember.Goals as goal

pub invariant_of-self : goal.invariant_of-self
invariant_of-self g c = kept_anew g.M.SavingMachine.represents _ c.of.ensures c.self.invariant.many
