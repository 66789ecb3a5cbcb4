-- The search finds the least free number.
use Rattle.update_api.proofs.LeastFreeLaws.{least_free_is}
use Rattle.update_api.proofs.laws.colours_take_the_least_free_number.Goals as goal

pub returns-clause-uncoloured : goal.returns-clause-uncoloured
returns-clause-uncoloured c = λ nears. least_free_is nears
