-- The search finds the greatest supported number.
use Rattle.update_api.proofs.SupportedLaws.{greatest_is}
use Rattle.update_api.proofs.laws.cores_take_the_greatest_supported_number.Goals as goal

pub returns : goal.returns
returns c = λ own nears. greatest_is own nears
