-- Failed attempt after failed attempt.
use Rattle.call_laws.proofs.attempts.Counting.{failed_few}
use Rattle.call_laws.proofs.attempts.Failing.{call_restarts}
use Rattle.call_laws.proofs.attempts.laws.restarts_are_counted.Goals as goal

pub returns-clause-restarts : goal.returns-clause-restarts
returns-clause-restarts c = λ shared call is. call_restarts shared call is

pub returns-clause-attempts : goal.returns-clause-attempts
returns-clause-attempts c = λ shared call is. failed_few shared call is
