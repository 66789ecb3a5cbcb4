use Rattle.snapshot_machines.specs.chromatic.Machines.{with_locking}
use Rattle.snapshot_machines.proofs.chromatic.machines.ColorSnapMachine.is_idle.Goals as goal

pub returns : goal.returns
returns g c = rw (← c.self.view_is) (λ st is. c.is_idle.ensures (with_locking st) is.part)
