-- What is logged is what was made.
use Rattle.call_laws.proofs.cluster_attempts.Making.{held_is, logs_are}
use Rattle.call_laws.proofs.cluster_attempts.laws.records_are_held.Goals as goal

pub returns-clause-logs : goal.returns-clause-logs
returns-clause-logs c = λ st cluster whole logged a account. logs_are st cluster whole logged account a

pub returns-clause-held : goal.returns-clause-held
returns-clause-held c = λ st failures b cluster whole logged is account tickets. held_is st is cluster whole logged account failures b tickets
