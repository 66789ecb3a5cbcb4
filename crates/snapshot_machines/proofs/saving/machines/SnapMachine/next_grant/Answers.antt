use Rattle.snapshot_machines.proofs.saving.machines.SnapMachine.next_grant.Goals as goal

pub returns-clause-none : goal.returns-clause-none
returns-clause-none g c = rw (← c.self.view_is) c.next_grant.ensures.none
