use Rattle.full_cluster.proofs.ReadyLemmas.{ready_at, updatable}
use Rattle.full_cluster.proofs.laws.coherent_machines_may_update.Goals as goal

pub returns-clause-ready : goal.returns-clause-ready
returns-clause-ready c = λ st p w kept s v seen flight ready. ready_at st p w kept s v seen flight ready

pub returns-clause-updatable : goal.returns-clause-updatable
returns-clause-updatable c = λ st p w m s is kept machine home. updatable st p w m s is kept machine home
