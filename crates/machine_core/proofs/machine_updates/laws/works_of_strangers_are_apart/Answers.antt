-- Their edges are others, and their ends.
use Rattle.machine_core.proofs.machine_updates.ApartLemmas.{strangers_apart}
use Rattle.machine_core.proofs.machine_updates.laws.works_of_strangers_are_apart.Goals as goal

pub returns : goal.returns
returns c = strangers_apart
