-- Attempt by attempt.
use Rattle.call_laws.proofs.call_budgets.Stretches.{order_few}
use Rattle.call_laws.proofs.call_budgets.laws.orders_grow_by_updates.Goals as goal

pub returns : goal.returns
returns c = λ shared call is. order_few shared call is
