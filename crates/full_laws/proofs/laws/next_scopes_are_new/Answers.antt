use Rattle.full_laws.proofs.Standing.{next_flight, next_stand}
use Rattle.full_laws.proofs.laws.next_scopes_are_new.Goals as goal

pub returns-clause-flight : goal.returns-clause-flight
returns-clause-flight c = λ st p w kept a. next_flight st p w kept a

pub returns-clause-stand : goal.returns-clause-stand
returns-clause-stand c = λ st p w kept a b. next_stand st p w kept a b
