-- The call has started from what the store has.
use Rattle.std.proofs.Common.{false, length, sym, ◌∙◌, ◌≡◌}
use Rattle.engine_runs.proofs.start.StartLemmas.{can_open, has_started, low_stored, restarts_first, some_setting}
use Rattle.engine_runs.specs.start.Starting.{shared_of}
use Rattle.recovery.specs.Journals.{stored_in}
use Rattle.engine_runs.proofs.start.starting.start_call.Goals as goal

pub returns-clause-started : goal.returns-clause-started
returns-clause-started g c = λ told st runs good.
    let meaning = g.P.Program.meaning in
    let graph = c.args.input.now.graph.now in
    let program = g.P.Program.meaning c.args.program in
    let header = c.args.journal.now.header in
    let seen = (g.D.Disk.past c.args.journal.now.disk).now.seen in
    let base = c.in_ok-base.base in
    let opening = c.in_ok-opening.opening in
    let trace = c.in-Ok-trace_of.trace in
    let places = c.in-Ok.places in
    let failures = c.args.input.now.failures.now in
    let budget = c.args.input.now.plan.run.budget in
    let machines = c.args.input.now.plan.run.machines in
    let recovered = c.in_ok-base.ensures.base told in
    let low = low_stored graph program header seen base recovered in
    let op = c.in_ok-opening.ensures.opening in
    let base_good = c.in_ok-base.ensures.good told (shared_of st failures) runs.placed.graph runs.program_is c.requires.graph good in
    let are = c.in-Ok.ensures.placed.are in
    let fresh : c.args.resumed ≡ false → length (stored_in header seen) ≡ 0 = λ is. sym (c.count-stored.ensures.stored told c.in_ok-base.ensures.well.0) ∙ c.count-stored.ensures.count ∙ c.requires.fresh is in
    has_started meaning graph program header (stored_in header seen) base c.args.resumed opening trace places failures budget machines recovered low op st runs good base_good c.requires.failures are c.requires.plan.budget fresh
    (c.in-Ok-trace_of.ensures.opened st c.args.resumed base.order runs
    (can_open meaning graph program header (stored_in header seen) base c.args.resumed opening trace places failures budget machines recovered low op st runs good base_good c.requires.failures are c.requires.plan.budget fresh))
    c.in-Ok-trace_of.ensures.failures c.requires.graph c.requires.machines

pub returns-clause-setting : goal.returns-clause-setting
returns-clause-setting g c =
    some_setting c.args.input.now.graph.now (g.P.Program.meaning c.args.program) c.in-Ok.places c.args.input.now.plan.run.machines c.args.input.now.failures.now c.in-Ok.ensures.graph c.in-Ok.ensures.placed.are

pub returns-clause-restarts : goal.returns-clause-restarts
returns-clause-restarts g c = restarts_first c.args.resumed c.in_ok-base.base c.in_ok-opening.opening c.in_ok-opening.ensures.opening
