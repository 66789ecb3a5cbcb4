-- What is reported.
use Rattle.wire.specs.wire_msgs.Views.{message_view}
use Rattle.snapshot_machines.proofs.locking.AnswerLemmas.{taken_none, taken_some}
use Rattle.placed_machines.proofs.chromatic.ReadLemmas.{report_taken, reports_none, reports_still}
use Rattle.placed_machines.proofs.chromatic.machines.ChromaticMachine.first_report.Goals as goal

pub returns-clause-taken : goal.returns-clause-taken
returns-clause-taken g c = rw (← c.self.view_is) (taken_some message_view c.take.result c.self.inside.reports.messages _ c.take.ensures.first (λ one first. report_taken g.P.Program.meaning (record { machine = c.self.inside.machine; counts = c.self.inside.counts; window = c.self.inside.window; reports = c.self.inside.reports }) c.take.new.self one c.take.ensures.behind first))

pub returns-clause-none : goal.returns-clause-none
returns-clause-none g c = rw (← c.self.view_is) (taken_none message_view c.take.result c.self.inside.reports.messages _ c.take.ensures.first (λ none. reports_none g.P.Program.meaning (record { machine = c.self.inside.machine; counts = c.self.inside.counts; window = c.self.inside.window; reports = c.self.inside.reports }) none))

pub returns-clause-unchanged : goal.returns-clause-unchanged
returns-clause-unchanged g c = rw (← c.self.view_is) (taken_none message_view c.take.result c.self.inside.reports.messages _ c.take.ensures.first (λ none. reports_still g.P.Program.meaning (record { machine = c.self.inside.machine; counts = c.self.inside.counts; window = c.self.inside.window; reports = c.self.inside.reports }) c.take.new.self c.take.ensures.behind none))
