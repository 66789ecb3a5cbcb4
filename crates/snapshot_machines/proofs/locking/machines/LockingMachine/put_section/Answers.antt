-- The section, for each machine of the law.
use Rattle.std.proofs.Common.{refl, sym, ◌∙◌}
use Rattle.wire.specs.wire_msgs.Views.{section_view}
use Rattle.snapshot_machines.proofs.locking.AnswerLemmas.{machine_stands, other_err, room_made, section_back, section_may_not, section_now}
use Rattle.snapshot_machines.proofs.locking.MarkLemmas.{can_not_send, can_send}
use Rattle.snapshot_machines.proofs.locking.machines.LockingMachine.put_section.Goals as goal

pub returns-then-not-has_section-clause-not_now : goal.returns-then-not-has_section-clause-not_now
returns-then-not-has_section-clause-not_now g c is = rw (← c.self.view_is) (can_not_send g.P.Program.meaning (record { machine = c.self.inside.machine; counts = c.self.inside.counts; window = c.self.inside.window; reports = c.self.inside.reports }) (c.has_section.ensures.no c.if-not-has_section.true))

pub returns-then-not-has_section-clause-unchanged : goal.returns-then-not-has_section-clause-unchanged
returns-then-not-has_section-clause-unchanged g c = rw (← c.self.view_is) (machine_stands g.P.Program.meaning (record { machine = c.self.inside.machine; counts = c.self.inside.counts; window = c.self.inside.window; reports = c.self.inside.reports }) c.has_section.new.self c.self.inside.reports c.has_section.ensures.same refl)

pub returns-then-is_err-clause-no_memory : goal.returns-then-is_err-clause-no_memory
returns-then-is_err-clause-no_memory g c is = rw (← c.self.view_is) (can_send g.P.Program.meaning (record { machine = c.self.inside.machine; counts = c.self.inside.counts; window = c.self.inside.window; reports = c.self.inside.reports }) (c.has_section.ensures.yes c.if-not-has_section.false))

pub returns-then-is_err-clause-unchanged : goal.returns-then-is_err-clause-unchanged
returns-then-is_err-clause-unchanged g c = rw (← c.self.view_is) (machine_stands g.P.Program.meaning (record { machine = c.self.inside.machine; counts = c.self.inside.counts; window = c.self.inside.window; reports = c.self.inside.reports }) c.has_section.new.self c.reserve.new.self c.has_section.ensures.same c.reserve.ensures.same)

pub put-requires : goal.put-requires
put-requires g c = (room_made c.reserve.result _ (sym c.is_err.ensures.value ∙ c.if-is_err.false) c.reserve.ensures.room)

pub returns-in-Ok-clause-sent : goal.returns-in-Ok-clause-sent
returns-in-Ok-clause-sent g c = rw (← c.self.view_is) (section_now g.P.Program.meaning (record { machine = c.self.inside.machine; counts = c.self.inside.counts; window = c.self.inside.window; reports = c.self.inside.reports }) c.has_section.new.self c.section.new.self c.has_section.ensures.same c.section.ensures.core c.section.ensures.program c.reserve.new.self c.put.new.self (section_view c.in-Ok.section) c.in-Ok.ensures.may c.in-Ok.ensures.sent c.in-Ok.ensures.told c.reserve.ensures.same c.put.ensures)

pub returns-in-Err-clause-not_now : goal.returns-in-Err-clause-not_now
returns-in-Err-clause-not_now g c is = rw (← c.self.view_is) (can_not_send g.P.Program.meaning (record { machine = c.self.inside.machine; counts = c.self.inside.counts; window = c.self.inside.window; reports = c.self.inside.reports }) (section_may_not g.P.Program.meaning (record { machine = c.self.inside.machine; counts = c.self.inside.counts; window = c.self.inside.window; reports = c.self.inside.reports }) c.has_section.new.self c.section.new.self c.has_section.ensures.same (c.in-Err.ensures.not_now (other_err c.in-Err.refused _ is))))

pub returns-in-Err-clause-no_memory : goal.returns-in-Err-clause-no_memory
returns-in-Err-clause-no_memory g c is = rw (← c.self.view_is) (can_send g.P.Program.meaning (record { machine = c.self.inside.machine; counts = c.self.inside.counts; window = c.self.inside.window; reports = c.self.inside.reports }) (c.has_section.ensures.yes c.if-not-has_section.false))

pub returns-in-Err-clause-unchanged : goal.returns-in-Err-clause-unchanged
returns-in-Err-clause-unchanged g c = rw (← c.self.view_is) (section_back g.P.Program.meaning (record { machine = c.self.inside.machine; counts = c.self.inside.counts; window = c.self.inside.window; reports = c.self.inside.reports }) c.has_section.new.self c.section.new.self c.has_section.ensures.same c.section.ensures.core c.section.ensures.program c.reserve.new.self c.in-Err.ensures.unchanged c.reserve.ensures.same)
