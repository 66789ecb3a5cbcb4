-- The counts are told.
use Rattle.std.proofs.Common.{length, ap, ◌∙◌}
use Rattle.machine_core.specs.declared.machine_parts.cores.Core.{Core}
use Rattle.snapshot_machines.proofs.locking.AnswerLemmas.{wave_answered, wave_unanswered}
use Rattle.snapshot_machines.proofs.locking.machines.LockingMachine.answer.Goals as goal

pub returns-in-Some : goal.returns-in-Some
returns-in-Some g c = rw (← c.self.view_is) (wave_answered (record { machine = c.self.inside.machine; counts = c.self.inside.counts; window = c.self.inside.window; reports = c.self.inside.reports }) c.begin_answer.new.self c.answer.new.self c.args.wave c.args.sent c.count-updates.result c.is_idle-idle.result c.answer.result c.begin_answer.ensures c.answer.ensures (c.count-updates.ensures ∙ ap length c.deref.ensures.value ∙ ap (λ (m : Core). length m.numbers.log.items) c.core.ensures.parts) c.is_idle-idle.ensures c.in-Some.answer c.put.new.self c.in-Some.is c.put.ensures)

pub returns-in_default : goal.returns-in_default
returns-in_default g c = absurd (wave_unanswered (record { machine = c.self.inside.machine; counts = c.self.inside.counts; window = c.self.inside.window; reports = c.self.inside.reports }) c.begin_answer.new.self c.answer.new.self c.args.wave c.args.sent c.count-updates.result c.is_idle-idle.result c.answer.result c.begin_answer.ensures c.answer.ensures (c.count-updates.ensures ∙ ap length c.deref.ensures.value ∙ ap (λ (m : Core). length m.numbers.log.items) c.core.ensures.parts) c.is_idle-idle.ensures c.in_default.is)
