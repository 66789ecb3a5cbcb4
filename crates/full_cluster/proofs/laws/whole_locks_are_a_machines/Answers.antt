-- A lock with one holder.
use Rattle.full_cluster.proofs.LockLemmas.{freed_law, granted_law, not_now_law}
use Rattle.full_cluster.proofs.laws.whole_locks_are_a_machines.Goals as goal

pub returns-clause-granted : goal.returns-clause-granted
returns-clause-granted c = λ st a x part old new s low owned lock granted. granted_law st a x part old new s low owned lock granted

pub returns-clause-not_now : goal.returns-clause-not_now
returns-clause-not_now c = λ st a x part lock is cannot may. not_now_law st a x part lock is cannot may

pub returns-clause-freed : goal.returns-clause-freed
returns-clause-freed c = λ part x old new s lock freed. freed_law part x old new s lock freed
