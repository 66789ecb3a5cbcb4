-- The call goes on to its next pause, and goes back or ends there.
use Rattle.std.proofs.Common.{subst}
use Rattle.engine_runs.proofs.unstored.Goings.{goes_then, goes_to}
use Rattle.engine_runs.specs.unstored.Inner.Going.{IsAnyMachineOf, PausesUnsaved}
use Rattle.engine_runs.proofs.unstored.steps.step.Goals as goal

pub go_back_from-requires-clause-can : goal.go_back_from-requires-clause-can
go_back_from-requires-clause-can g c =
    (goes_to g.P.Program.meaning c.args.graph.now (g.P.Program.meaning c.args.program) c.args.call.now c.go_on.new.call c.go_on.ensures.same c.go_on.ensures.attempt c.go_on.ensures.known c.requires).can

pub go_back_from-requires-clause-reached : goal.go_back_from-requires-clause-reached
go_back_from-requires-clause-reached g c = (_, subst (PausesUnsaved (IsAnyMachineOf g.P.Program.meaning) c.go_on.new.call.trace) c.in-Reached.is c.in_ok-go_on.ensures.pause)

pub returns-in_ok-go_back_from-in-Reached-clause-on : goal.returns-in_ok-go_back_from-in-Reached-clause-on
returns-in_ok-go_back_from-in-Reached-clause-on g c =
    goes_then g.P.Program.meaning c.args.graph.now (g.P.Program.meaning c.args.program) c.args.call.now c.go_on.new.call c.go_back_from.new.call
    (goes_to g.P.Program.meaning c.args.graph.now (g.P.Program.meaning c.args.program) c.args.call.now c.go_on.new.call c.go_on.ensures.same c.go_on.ensures.attempt c.go_on.ensures.known c.requires)
    c.in_ok-go_back_from-in-Reached.ensures

pub returns-in-Quiet-clause-on : goal.returns-in-Quiet-clause-on
returns-in-Quiet-clause-on g c =
    goes_to g.P.Program.meaning c.args.graph.now (g.P.Program.meaning c.args.program) c.args.call.now c.go_on.new.call c.go_on.ensures.same c.go_on.ensures.attempt c.go_on.ensures.known c.requires

pub returns-in-Spent-clause-on : goal.returns-in-Spent-clause-on
returns-in-Spent-clause-on g c =
    goes_to g.P.Program.meaning c.args.graph.now (g.P.Program.meaning c.args.program) c.args.call.now c.go_on.new.call c.go_on.ensures.same c.go_on.ensures.attempt c.go_on.ensures.known c.requires
