-- The machine is between its calls.
use Rattle.snapshot_machines.proofs.saving.StayLemmas.{in_order}
use Rattle.snapshot_machines.proofs.saving.machines.SnapMachine.can_update.Goals as goal

pub returns-clause-order : goal.returns-clause-order
returns-clause-order g c =
    let m = c.self.inside in
    rw (← c.self.view_is) (in_order m.core m.snaps m.seen c.self.invariant)
