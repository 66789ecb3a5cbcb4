-- The run from its beginning to its end, by whatever owners the placement gives.
use Rattle.std.proofs.Common.{sym, ◌∙◌}
use Rattle.engine_runs.proofs.placement_is_unique.Placements.{placed_once}
use Rattle.engine_runs.proofs.unstored.Owned.{never_spent, only_memory, run_by, run_owned}
use Rattle.engine_runs.proofs.unstored.running.run_unstored.Goals as goal

pub returns-in-Ok-clause-run : goal.returns-in-Ok-clause-run
returns-in-Ok-clause-run g c = λ owner placement.
    let made = c.in_ok-call.ensures in
    run_owned g.P.Program.meaning c.args.input.now.graph.now (g.P.Program.meaning c.args.program) c.args.input.now.cut.now _ c.args.input.now.failures.now c.in_ok-call.call c.in_ok-ended.ended.0 c.in_ok-ended.ended.1 made.graph made.places
    (placed_once c.args.input.now.graph.now c.args.input.now.cut.now c.args.input.now.plan.machines c.requires.plan.machines) made.begun made.failures c.in_ok-ended.ensures.on c.in_ok-ended.ensures.ends
    owner placement c.in-Ok.run' c.in-Ok.ensures.alone c.in-Ok.ensures.trace

pub returns-in-Ok-clause-engine : goal.returns-in-Ok-clause-engine
returns-in-Ok-clause-engine g c =
    let made = c.in_ok-call.ensures in
    run_by g.P.Program.meaning c.args.input.now.graph.now (g.P.Program.meaning c.args.program) c.args.input.now.cut.now _ c.args.input.now.failures.now c.in_ok-call.call c.in_ok-ended.ended.0 c.in_ok-ended.ended.1 made.graph made.places
    (placed_once c.args.input.now.graph.now c.args.input.now.cut.now c.args.input.now.plan.machines c.requires.plan.machines) made.begun made.failures c.in_ok-ended.ensures.on c.in_ok-ended.ensures.ends
    _ made.places.placement _ c.in-Ok.ensures.trace

pub returns-in-Ok-clause-enough : goal.returns-in-Ok-clause-enough
returns-in-Ok-clause-enough g c = λ bound steps enough left spent.
    let made = c.in_ok-call.ensures in
    never_spent g.P.Program.meaning c.args.input.now.graph.now (g.P.Program.meaning c.args.program) c.args.input.now.cut.now _ c.args.input.now.failures.now c.in_ok-call.call c.in_ok-ended.ended.0 c.in_ok-ended.ended.1 made.graph made.places
    (placed_once c.args.input.now.graph.now c.args.input.now.cut.now c.args.input.now.plan.machines c.requires.plan.machines) made.begun made.failures c.in_ok-ended.ensures.on c.in_ok-ended.ensures.ends
    _ made.places.placement bound steps enough left (sym c.in-Ok.ensures.end ∙ spent)

pub only_memory-requires : goal.only_memory-requires
only_memory-requires g c =
    let made = c.in_ok-call.ensures in
    only_memory g.P.Program.meaning c.args.input.now.graph.now (g.P.Program.meaning c.args.program) c.args.input.now.cut.now _ c.args.input.now.failures.now c.in_ok-call.call c.in_ok-ended.ended.0 c.in_ok-ended.ended.1 made.graph made.places
    (placed_once c.args.input.now.graph.now c.args.input.now.cut.now c.args.input.now.plan.machines c.requires.plan.machines) made.begun made.failures c.in_ok-ended.ensures.on c.in_ok-ended.ensures.ends
    _ made.places.placement c.in-Err.why _ c.in-Err.ensures.other
