-- By the last attempt, and where it acknowledged no snapshot by where it began.
use Rattle.call_laws.proofs.call_budgets.Outside.{outside_few}
use Rattle.call_laws.proofs.call_budgets.laws.what_is_outside_is_of_the_order.Goals as goal

pub returns : goal.returns
returns c = λ shared call is. outside_few shared call is
