-- Nothing is asked for without a window.
use Rattle.std.proofs.Common.{sym}
use Rattle.snapshot_machines.proofs.locking.AnswerLemmas.{asked_never}
use Rattle.snapshot_machines.proofs.locking.machines.LockingMachine.ask.Goals as goal

pub returns-in_default : goal.returns-in_default
returns-in_default g c = rw (← c.self.view_is) (asked_never (record { machine = c.self.inside.machine; counts = c.self.inside.counts; window = c.self.inside.window; reports = c.self.inside.reports }) (sym c.in_default.is))
