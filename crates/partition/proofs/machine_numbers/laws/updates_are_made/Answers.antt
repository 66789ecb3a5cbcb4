use Rattle.partition.proofs.machine_numbers.JoinLemmas.{updated_is}
use Rattle.partition.proofs.machine_numbers.laws.updates_are_made.Goals as goal

pub returns : goal.returns
returns c = updated_is
