-- Failed attempt after failed attempt.
use Rattle.call_laws.proofs.attempts.Storing.{call_back}
use Rattle.call_laws.proofs.attempts.laws.attempts_begin_at_snapshots.Goals as goal

pub returns : goal.returns
returns c = λ shared call is. call_back shared call is
