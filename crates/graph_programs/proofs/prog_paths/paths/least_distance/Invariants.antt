-- What was seen so far and what is left offer as low a distance as all.
use Rattle.std.proofs.Common.{◌≡◌, ◌+◌, drop}
use Rattle.update_api.specs.Links.{near_at}
use Rattle.update_api.specs.Scopes.{numbers}
use Rattle.update_api.specs.Updates.{comes_reached}
use Rattle.update_api.proofs.LeastLaws.{least_offered}
use Rattle.graph_programs.proofs.prog_paths.paths.least_distance.Given as goal

abbrev pub invariant-loop-i : goal.invariant-loop-i
invariant-loop-i l =
    let s = l.scope in let offered = least_offered (near_at (numbers s) s.edges.now) comes_reached (λ near. near.number + near.weight) in
    offered l.distance (drop l.i s.links.now) ≡ offered s.centre.now s.links.now
