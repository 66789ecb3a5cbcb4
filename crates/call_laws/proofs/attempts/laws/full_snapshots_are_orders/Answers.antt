-- What is held is all.
use Rattle.call_laws.proofs.attempts.Storing.{full_is}
use Rattle.call_laws.proofs.attempts.laws.full_snapshots_are_orders.Goals as goal

pub returns : goal.returns
returns c = λ shared call is some full. full_is shared call is some full
