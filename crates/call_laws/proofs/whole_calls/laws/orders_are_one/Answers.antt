-- Order after order.
use Rattle.call_laws.proofs.whole_calls.Fronting.{next_once}
use Rattle.call_laws.proofs.whole_calls.laws.orders_are_one.Goals as goal

pub returns : goal.returns
returns c = λ st before fronts snapshots orders others are too. next_once st before fronts snapshots orders others are too
