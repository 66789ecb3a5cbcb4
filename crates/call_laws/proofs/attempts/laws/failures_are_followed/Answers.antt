-- In the attempt in which the count is reached its machine stops.
use Rattle.call_laws.proofs.attempts.Failing.{call_followed}
use Rattle.call_laws.proofs.attempts.laws.failures_are_followed.Goals as goal

pub returns : goal.returns
returns c = λ shared call is. call_followed shared call is
