-- The machine is between its calls.
use Rattle.snapshot_machines.proofs.chromatic.machines.ColorSnapMachine.can_mark.Goals as goal

pub returns-clause-order : goal.returns-clause-order
returns-clause-order g c = rw (← c.self.view_is) c.can_mark.ensures.order
