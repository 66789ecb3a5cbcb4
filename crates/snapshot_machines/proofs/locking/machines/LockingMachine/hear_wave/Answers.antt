-- The counts of a wave, for each machine of the law.
use Rattle.std.proofs.Common.{sym, ◌∙◌}
use Rattle.snapshot_machines.proofs.locking.AnswerLemmas.{room_made}
use Rattle.snapshot_machines.proofs.locking.StandLemmas.{reports_stand}
use Rattle.snapshot_machines.proofs.locking.HearLemmas.{heard_wave}
use Rattle.snapshot_machines.proofs.locking.machines.LockingMachine.hear_wave.Goals as goal

pub returns-then-is_err-clause-unchanged : goal.returns-then-is_err-clause-unchanged
returns-then-is_err-clause-unchanged g c = rw (← c.self.view_is) (reports_stand g.P.Program.meaning (record { machine = c.self.inside.machine; counts = c.self.inside.counts; window = c.self.inside.window; reports = c.self.inside.reports }) c.reserve.new.self c.reserve.ensures.same)

pub answer-requires : goal.answer-requires
answer-requires g c = (room_made c.reserve.result _ (sym c.is_err.ensures.value ∙ c.if-is_err.false) c.reserve.ensures.room)

pub returns-in-Ok-clause-heard : goal.returns-in-Ok-clause-heard
returns-in-Ok-clause-heard g c = rw (← c.self.view_is) (heard_wave g.P.Program.meaning (record { machine = c.self.inside.machine; counts = c.self.inside.counts; window = c.self.inside.window; reports = c.self.inside.reports }) c.answer.new.self c.args.wave c.in-Ok.sent c.waiting.result c.reserve.new.self c.reserve.ensures.same c.answer.ensures c.waiting.ensures c.in-Ok.ensures.told c.in-Ok.ensures.put_out)

pub returns-in-Err-clause-unchanged : goal.returns-in-Err-clause-unchanged
returns-in-Err-clause-unchanged g c = rw (← c.self.view_is) (reports_stand g.P.Program.meaning (record { machine = c.self.inside.machine; counts = c.self.inside.counts; window = c.self.inside.window; reports = c.self.inside.reports }) c.reserve.new.self c.reserve.ensures.same)
