-- The call goes on to its next pause, and is led on or ended there.
use Rattle.std.proofs.Common.{subst}
use Rattle.engine_runs.specs.Calls.{IsAnyMachineOf, PauseMeaning}
use Rattle.engine_runs.proofs.Pausing.{ends_from, finished, full, on_at, quiet, spent, then_ends, then_keeps}
use Rattle.engine_runs.proofs.Refusing.{bounds_on}
use Rattle.engine_runs.proofs.steps.step.Goals as goal

pub returns-in_err-go_on-clause-keeps : goal.returns-in_err-go_on-clause-keeps
returns-in_err-go_on-clause-keeps g c = λ told start first st o runs at.
    on_at g.P.Program.meaning g.D.Disk.past c.args.graph.now (g.P.Program.meaning c.args.program) c.args.call.now c.go_on.new.call c.args.journal.now c.go_on.ensures.same c.go_on.ensures.attempt c.go_on.ensures.known c.requires.can.well start first st o at

pub returns-in-Reached-clause-keeps : goal.returns-in-Reached-clause-keeps
returns-in-Reached-clause-keeps g c = λ told.
    then_keeps g.P.Program.meaning g.D.Disk.past c.args.graph.now (g.P.Program.meaning c.args.program) c.args.call.now c.go_on.new.call c.args.journal.now c.go_on.ensures.same c.go_on.ensures.attempt c.go_on.ensures.known c.requires.can.well
    c.go_back_from.new.call c.go_back_from.new.journal (c.go_back_from.ensures.keeps told)

pub returns-in-Reached-clause-ends : goal.returns-in-Reached-clause-ends
returns-in-Reached-clause-ends g c = λ told.
    ends_from c.go_back_from.result _ _
    (then_ends g.P.Program.meaning g.D.Disk.past c.args.graph.now (g.P.Program.meaning c.args.program) c.args.call.now c.go_on.new.call c.args.journal.now c.go_on.ensures.same c.go_on.ensures.attempt c.go_on.ensures.known c.requires.can.well
    c.go_back_from.new.call c.go_back_from.new.journal) (c.go_back_from.ensures.ends told)

pub returns-in-Record-clause-keeps : goal.returns-in-Record-clause-keeps
returns-in-Record-clause-keeps g c = λ told.
    then_keeps g.P.Program.meaning g.D.Disk.past c.args.graph.now (g.P.Program.meaning c.args.program) c.args.call.now c.go_on.new.call c.args.journal.now c.go_on.ensures.same c.go_on.ensures.attempt c.go_on.ensures.known c.requires.can.well
    c.save_due.new.call c.save_due.new.journal (λ start first st o runs. c.save_due.ensures.keeps told start first st o)

pub returns-in-Record-clause-ends : goal.returns-in-Record-clause-ends
returns-in-Record-clause-ends g c = λ told.
    ends_from c.save_due.result _ _
    (λ how ends. then_ends g.P.Program.meaning g.D.Disk.past c.args.graph.now (g.P.Program.meaning c.args.program) c.args.call.now c.go_on.new.call c.args.journal.now c.go_on.ensures.same c.go_on.ensures.attempt c.go_on.ensures.known c.requires.can.well
    c.save_due.new.call c.save_due.new.journal how (λ start first st o runs. ends start first st o)) (c.save_due.ensures.ends told)

pub returns-in-Ended-clause-keeps : goal.returns-in-Ended-clause-keeps
returns-in-Ended-clause-keeps g c = λ told start first st o runs at.
    on_at g.P.Program.meaning g.D.Disk.past c.args.graph.now (g.P.Program.meaning c.args.program) c.args.call.now c.go_on.new.call c.args.journal.now c.go_on.ensures.same c.go_on.ensures.attempt c.go_on.ensures.known c.requires.can.well start first st o at

pub returns-in-Ended-clause-ends : goal.returns-in-Ended-clause-ends
returns-in-Ended-clause-ends g c = λ told.
    finished g.P.Program.meaning g.D.Disk.past c.args.graph.now (g.P.Program.meaning c.args.program) c.args.call.now c.go_on.new.call c.args.journal.now c.go_on.ensures.same c.go_on.ensures.attempt c.go_on.ensures.known c.requires.can.well
    (subst (PauseMeaning (IsAnyMachineOf g.P.Program.meaning) c.go_on.new.call.trace) c.in-Ended.is c.in_ok-go_on.ensures.pause)

pub returns-in-Quiet-clause-keeps : goal.returns-in-Quiet-clause-keeps
returns-in-Quiet-clause-keeps g c = λ told start first st o runs at.
    on_at g.P.Program.meaning g.D.Disk.past c.args.graph.now (g.P.Program.meaning c.args.program) c.args.call.now c.go_on.new.call c.args.journal.now c.go_on.ensures.same c.go_on.ensures.attempt c.go_on.ensures.known c.requires.can.well start first st o at

pub returns-in-Quiet-clause-ends : goal.returns-in-Quiet-clause-ends
returns-in-Quiet-clause-ends g c = λ told.
    quiet g.P.Program.meaning g.D.Disk.past c.args.graph.now (g.P.Program.meaning c.args.program) c.args.call.now c.go_on.new.call c.args.journal.now c.go_on.ensures.same c.go_on.ensures.attempt c.go_on.ensures.known c.requires.can.well
    (c.in_ok-go_on.ensures.unsaved c.in-Quiet.is) (subst (PauseMeaning (IsAnyMachineOf g.P.Program.meaning) c.go_on.new.call.trace) c.in-Quiet.is c.in_ok-go_on.ensures.pause)

pub returns-in-Full-clause-keeps : goal.returns-in-Full-clause-keeps
returns-in-Full-clause-keeps g c = λ told start first st o runs at.
    on_at g.P.Program.meaning g.D.Disk.past c.args.graph.now (g.P.Program.meaning c.args.program) c.args.call.now c.go_on.new.call c.args.journal.now c.go_on.ensures.same c.go_on.ensures.attempt c.go_on.ensures.known c.requires.can.well start first st o at

pub returns-in-Full-clause-ends : goal.returns-in-Full-clause-ends
returns-in-Full-clause-ends g c = λ told.
    full g.P.Program.meaning g.D.Disk.past c.args.graph.now (g.P.Program.meaning c.args.program) c.args.call.now c.go_on.new.call c.args.journal.now c.go_on.ensures.same c.go_on.ensures.attempt c.go_on.ensures.known c.requires.can.well
    c.count.result c.length.result (c.count.ensures.stored told c.requires.can.well) (c.length.ensures.stored told c.requires.can.well)
    (subst (PauseMeaning (IsAnyMachineOf g.P.Program.meaning) c.go_on.new.call.trace) c.in-Full.is c.in_ok-go_on.ensures.pause)

pub returns-in-Spent-clause-keeps : goal.returns-in-Spent-clause-keeps
returns-in-Spent-clause-keeps g c = λ told start first st o runs at.
    on_at g.P.Program.meaning g.D.Disk.past c.args.graph.now (g.P.Program.meaning c.args.program) c.args.call.now c.go_on.new.call c.args.journal.now c.go_on.ensures.same c.go_on.ensures.attempt c.go_on.ensures.known c.requires.can.well start first st o at

pub returns-in-Spent-clause-ends : goal.returns-in-Spent-clause-ends
returns-in-Spent-clause-ends g c = λ told.
    let pauses = subst (PauseMeaning (IsAnyMachineOf g.P.Program.meaning) c.go_on.new.call.trace) c.in-Spent.is c.in_ok-go_on.ensures.pause in
    spent g.P.Program.meaning g.D.Disk.past c.args.graph.now (g.P.Program.meaning c.args.program) c.args.call.now c.go_on.new.call c.args.journal.now c.go_on.ensures.same c.go_on.ensures.attempt c.go_on.ensures.known c.requires.can.well
    c.task_left.result pauses (c.task_left.ensures pauses.2)

pub returns-in-Reached-clause-good : goal.returns-in-Reached-clause-good
returns-in-Reached-clause-good g c = λ told st start first o at bounds.
    c.go_back_from.ensures.good told st start first o
    (on_at g.P.Program.meaning g.D.Disk.past c.args.graph.now (g.P.Program.meaning c.args.program) c.args.call.now c.go_on.new.call c.args.journal.now c.go_on.ensures.same c.go_on.ensures.attempt c.go_on.ensures.known c.requires.can.well start first st o at)
    (bounds_on c.args.call.now c.go_on.new.call c.args.journal.now c.args.journal.now st o c.go_on.ensures.attempt.failures bounds.bytes bounds)

pub returns-in-Record-clause-good : goal.returns-in-Record-clause-good
returns-in-Record-clause-good g c = λ told st start first o at bounds.
    c.save_due.ensures.good told st start first o
    (on_at g.P.Program.meaning g.D.Disk.past c.args.graph.now (g.P.Program.meaning c.args.program) c.args.call.now c.go_on.new.call c.args.journal.now c.go_on.ensures.same c.go_on.ensures.attempt c.go_on.ensures.known c.requires.can.well start first st o at)
    (bounds_on c.args.call.now c.go_on.new.call c.args.journal.now c.args.journal.now st o c.go_on.ensures.attempt.failures bounds.bytes bounds)
