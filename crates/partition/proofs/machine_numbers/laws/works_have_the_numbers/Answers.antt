use Rattle.partition.proofs.machine_numbers.WorkLemmas.{outcome_is}
use Rattle.partition.proofs.machine_numbers.laws.works_have_the_numbers.Goals as goal

pub returns : goal.returns
returns c = outcome_is
