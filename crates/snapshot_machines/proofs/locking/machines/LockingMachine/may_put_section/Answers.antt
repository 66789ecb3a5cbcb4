-- Whether a section is due, for each machine of the law.
use Rattle.std.proofs.Common.{refl}
use Rattle.snapshot_machines.proofs.locking.AnswerLemmas.{machine_stands, section_due}
use Rattle.snapshot_machines.proofs.locking.machines.LockingMachine.may_put_section.Goals as goal

pub returns-clause-section : goal.returns-clause-section
returns-clause-section g c = rw (← c.self.view_is) (section_due g.P.Program.meaning (record { machine = c.self.inside.machine; counts = c.self.inside.counts; window = c.self.inside.window; reports = c.self.inside.reports }) c.has_section.new.self c.has_section.new.self c.has_section.ensures.same c.has_section.result c.has_section.ensures.yes c.has_section.ensures.no)

pub returns-clause-unchanged : goal.returns-clause-unchanged
returns-clause-unchanged g c = rw (← c.self.view_is) (machine_stands g.P.Program.meaning (record { machine = c.self.inside.machine; counts = c.self.inside.counts; window = c.self.inside.window; reports = c.self.inside.reports }) c.has_section.new.self c.self.inside.reports c.has_section.ensures.same refl)
