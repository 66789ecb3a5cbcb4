use Rattle.full_cluster.proofs.CoherentLemmas.{next_new}
use Rattle.full_cluster.proofs.laws.coherent_machines_may_admit.Goals as goal

pub returns : goal.returns
returns c = λ st p w m kept machine. next_new st p w m kept machine
