use Rattle.partition.proofs.machine_numbers.PartLemmas.{sides_are}
use Rattle.partition.proofs.machine_numbers.laws.sides_are_here.Goals as goal

pub returns : goal.returns
returns c = sides_are
