use Rattle.full_cluster.proofs.CoherentLemmas.{asks, stands_within}
use Rattle.full_cluster.proofs.laws.coherent_machines_may_grant.Goals as goal

pub returns-clause-asks : goal.returns-clause-asks
returns-clause-asks c = λ st p w kept x. asks st p w kept x

pub returns-clause-within : goal.returns-clause-within
returns-clause-within c = λ st p w m is kept machine many. stands_within st p w m is kept machine many
