-- Failed attempt after failed attempt.
use Rattle.call_laws.proofs.attempts.Failing.{lost_within}
use Rattle.call_laws.proofs.attempts.laws.losses_are_few.Goals as goal

pub returns : goal.returns
returns c = λ shared window call is keep m. lost_within shared window call is keep m
