-- Attempt after attempt.
use Rattle.call_laws.proofs.attempts.Opening.{call_in_turn}
use Rattle.call_laws.proofs.attempts.laws.orders_are_in_turn.Goals as goal

pub returns : goal.returns
returns c = λ shared call is. call_in_turn shared call is
