use Rattle.snapshot_machines.proofs.chromatic.GuardLemmas.{none_to_mark}
use Rattle.snapshot_machines.proofs.chromatic.machines.ColorSnapMachine.next_mark.Goals as goal

pub returns-clause-none : goal.returns-clause-none
returns-clause-none g c = rw (← c.self.view_is) (none_to_mark c.self.inside.machine c.self.inside.lines.colours c.self.inside.colour c.self.inside.closed c.next_mark.result c.next_mark.ensures.none)
