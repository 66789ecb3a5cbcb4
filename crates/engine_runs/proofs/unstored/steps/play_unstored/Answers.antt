-- The call goes on, pause behind pause, until it ends.
use Rattle.engine_runs.proofs.unstored.Goings.{goes_then, goes_to, stays}
use Rattle.engine_runs.proofs.unstored.steps.play_unstored.Goals as goal

pub loop-init : goal.loop-init
loop-init g c = stays g.P.Program.meaning c.args.graph.now (g.P.Program.meaning c.args.program) c.args.call c.requires

pub step-requires : goal.step-requires
step-requires g c =
    (goes_to g.P.Program.meaning c.args.graph.now (g.P.Program.meaning c.args.program) c.loop.call c.in_ok-on.on c.in_ok-on.ensures.same c.in_ok-on.ensures.attempt c.in_ok-on.ensures.known c.loop.invariant.can).can

pub loop-preserved : goal.loop-preserved
loop-preserved g c =
    goes_then g.P.Program.meaning c.args.graph.now (g.P.Program.meaning c.args.program) c.args.call c.in_ok-on.on c.step.new.call
    (goes_then g.P.Program.meaning c.args.graph.now (g.P.Program.meaning c.args.program) c.args.call c.loop.call c.in_ok-on.on c.loop.invariant
    (goes_to g.P.Program.meaning c.args.graph.now (g.P.Program.meaning c.args.program) c.loop.call c.in_ok-on.on c.in_ok-on.ensures.same c.in_ok-on.ensures.attempt c.in_ok-on.ensures.known c.loop.invariant.can))
    c.in-Ok-None.ensures.on

pub returns-in-Ok-Some-clause-on : goal.returns-in-Ok-Some-clause-on
returns-in-Ok-Some-clause-on g c =
    goes_then g.P.Program.meaning c.args.graph.now (g.P.Program.meaning c.args.program) c.args.call c.in_ok-on.on c.step.new.call
    (goes_then g.P.Program.meaning c.args.graph.now (g.P.Program.meaning c.args.program) c.args.call c.loop.call c.in_ok-on.on c.loop.invariant
    (goes_to g.P.Program.meaning c.args.graph.now (g.P.Program.meaning c.args.program) c.loop.call c.in_ok-on.on c.in_ok-on.ensures.same c.in_ok-on.ensures.attempt c.in_ok-on.ensures.known c.loop.invariant.can))
    c.in-Ok-Some.ensures.on
