use Rattle.std.proofs.Common.{◌+◌, arith}
use Rattle.update_api.specs.Links.{near_at}
use Rattle.update_api.specs.Scopes.{numbers, no_link}
use Rattle.update_api.specs.Updates.{comes_reached}
use Rattle.update_api.proofs.LeastLaws.{least_after}
use Rattle.graph_programs.proofs.prog_paths.paths.least_distance.Goals as goal

pub loop-i-preserved : goal.loop-i-preserved
loop-i-preserved c =
    let s = c.args.scope.now in
    let step = least_after (near_at (numbers s) s.edges.now) comes_reached (λ near. near.number + near.weight) c.loop-i.distance s.links.now c.loop-i.i no_link (omega arith) in
    cc (step, c.loop-i.invariant, c.lowered-distance.ensures, c.leads_into-comes.ensures, c.direction.ensures, c.near.ensures, c.weight.ensures)
