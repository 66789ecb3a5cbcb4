use Rattle.snapshot_machines.proofs.saving.machines.SnapMachine.next_update.Goals as goal

pub returns-clause-none : goal.returns-clause-none
returns-clause-none g c = rw (← c.self.view_is) c.next_ready.ensures.none
