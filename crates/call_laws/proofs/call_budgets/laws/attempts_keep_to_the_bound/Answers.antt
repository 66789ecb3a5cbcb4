-- Attempt by attempt.
use Rattle.call_laws.proofs.call_budgets.Stretches.{made_few, made_fewer}
use Rattle.call_laws.proofs.call_budgets.laws.attempts_keep_to_the_bound.Goals as goal

pub returns-clause-made : goal.returns-clause-made
returns-clause-made c = λ shared call bound is steps. made_few shared bound steps call is

pub returns-clause-left : goal.returns-clause-left
returns-clause-left c = λ shared call bound is steps. made_fewer shared bound steps call is
