-- All have gone back to the start.
use Rattle.std.proofs.Common.{◌∙◌, refl, sym}
use Rattle.engine_runs.proofs.unstored.Goings.{goes_back}
use Rattle.engine_runs.proofs.unstored.steps.go_back_from.Goals as goal

pub returns : goal.returns
returns g c =
    let back = c.in_ok-order.ensures in
    goes_back g.P.Program.meaning c.args.graph.now (g.P.Program.meaning c.args.program) c.args.call.now _
    (record { places = refl; start = back.call.0; failures = back.call.1; machines = back.call.2; stopped = back.runs ∙ sym c.requires.can.running; saves = refl })
    refl back.stored back.runs back.alone c.requires.reached.0 c.requires.reached.1
    (λ header order st o of runs known some. back.back c.requires.can.running header order st o of runs known some) c.requires.can
