use Rattle.snapshot_machines.proofs.chromatic.GuardLemmas.{none_to_update}
use Rattle.snapshot_machines.proofs.chromatic.machines.ColorSnapMachine.next_update.Goals as goal

pub returns-clause-none : goal.returns-clause-none
returns-clause-none g c = rw (← c.self.view_is) (none_to_update c.self.inside.machine c.self.inside.lines.colours c.self.inside.colour c.self.inside.closed c.next_update.result c.next_update.ensures.none)
