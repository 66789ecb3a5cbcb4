-- That a snapshot is acknowledged, for each machine of the law.
use Rattle.std.proofs.Common.{sym, ◌∙◌}
use Rattle.snapshot_machines.proofs.locking.AnswerLemmas.{room_made}
use Rattle.snapshot_machines.proofs.locking.StandLemmas.{reports_stand}
use Rattle.snapshot_machines.proofs.locking.HearLemmas.{heard_committed}
use Rattle.snapshot_machines.proofs.locking.machines.LockingMachine.hear_committed.Goals as goal

pub returns-then-is_err-clause-unchanged : goal.returns-then-is_err-clause-unchanged
returns-then-is_err-clause-unchanged g c = rw (← c.self.view_is) (reports_stand g.P.Program.meaning (record { machine = c.self.inside.machine; counts = c.self.inside.counts; window = c.self.inside.window; reports = c.self.inside.reports }) c.reserve.new.self c.reserve.ensures.same)

pub ask-requires : goal.ask-requires
ask-requires g c = (room_made c.reserve.result _ (sym c.is_err.ensures.value ∙ c.if-is_err.false) c.reserve.ensures.room)

pub returns-clause-heard : goal.returns-clause-heard
returns-clause-heard g c = rw (← c.self.view_is) (heard_committed g.P.Program.meaning (record { machine = c.self.inside.machine; counts = c.self.inside.counts; window = c.self.inside.window; reports = c.self.inside.reports }) c.committed.new.self c.args.number c.committed.ensures.kept c.committed.ensures.fewer c.committed.ensures.part c.committed.ensures.program c.committed.ensures.settings c.reserve.new.self c.reserve.ensures.same c.ask.new.self c.ask.ensures)
