use Rattle.full_cluster.proofs.CoherentLemmas.{receivable}
use Rattle.full_cluster.proofs.laws.coherent_machines_may_receive.Goals as goal

pub returns : goal.returns
returns c = λ st p w m from queues message is kept machine many are one. receivable st p w m from queues message is kept machine many are one
