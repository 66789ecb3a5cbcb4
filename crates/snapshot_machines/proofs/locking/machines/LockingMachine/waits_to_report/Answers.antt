-- Whether a report waits.
use Rattle.snapshot_machines.proofs.locking.ReadLemmas.{reporting}
use Rattle.snapshot_machines.proofs.locking.machines.LockingMachine.waits_to_report.Goals as goal

pub returns : goal.returns
returns g c = rw (← c.self.view_is) (λ st a m snap is. reporting g.P.Program.meaning (record { machine = c.self.inside.machine; counts = c.self.inside.counts; window = c.self.inside.window; reports = c.self.inside.reports }) m st a is c.waits.result c.waits.ensures)
