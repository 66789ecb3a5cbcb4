use Rattle.partition.proofs.machine_numbers.PartLemmas.{tasks_are}
use Rattle.partition.proofs.machine_numbers.laws.played_parts_have_their_tasks.Goals as goal

pub returns : goal.returns
returns c = tasks_are
