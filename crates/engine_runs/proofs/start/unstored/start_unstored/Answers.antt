-- The call has started at the start.
use Rattle.engine_runs.proofs.start.StartingAlone.{starts_alone}
use Rattle.engine_runs.proofs.start.unstored.start_unstored.Goals as goal

pub returns-clause-started : goal.returns-clause-started
returns-clause-started g c = λ header st of machines runs.
    let opening = c.in_ok-opening.opening in
    let made = c.in_ok-opening.ensures in
    starts_alone g.P.Program.meaning c.args.graph.now (g.P.Program.meaning c.args.program) header opening c.in-Ok-trace_of.trace c.in-Ok.places c.args.failures.now c.args.plan.run.budget c.args.plan.run.machines
    made.base made.next made.stored made.front st runs c.requires.failures c.in-Ok.ensures.placed.are c.requires.plan.budget of
    (λ can. c.in-Ok-trace_of.ensures.opened st _ opening.base.order runs can) c.in-Ok-trace_of.ensures.failures machines
