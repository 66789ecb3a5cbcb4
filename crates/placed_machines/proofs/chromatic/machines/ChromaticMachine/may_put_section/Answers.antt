-- Whether a section is due, for each machine of the law.
use Rattle.placed_machines.proofs.chromatic.MarkLemmas.{section_due}
use Rattle.placed_machines.proofs.chromatic.machines.ChromaticMachine.may_put_section.Goals as goal

pub returns-clause-section : goal.returns-clause-section
returns-clause-section g c = rw (← c.self.view_is) (section_due g.P.Program.meaning (record { machine = c.self.inside.machine; counts = c.self.inside.counts; window = c.self.inside.window; reports = c.self.inside.reports }) c.has_section.result c.has_section.ensures.yes c.has_section.ensures.no)
