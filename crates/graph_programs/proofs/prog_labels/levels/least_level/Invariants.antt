-- What was seen so far and what is left offer as low a level as all.
use Rattle.std.proofs.Common.{◌≡◌, ◌+◌, drop}
use Rattle.update_api.specs.Links.{near_at}
use Rattle.update_api.specs.Scopes.{numbers}
use Rattle.update_api.specs.Updates.{comes_reached}
use Rattle.update_api.proofs.LeastLaws.{least_offered}
use Rattle.graph_programs.proofs.prog_labels.levels.least_level.Given as goal

abbrev pub invariant-loop-i : goal.invariant-loop-i
invariant-loop-i l =
    let s = l.scope in let offered = least_offered (near_at (numbers s) s.edges.now) comes_reached (λ near. near.number + 1) in
    offered l.level (drop l.i s.links.now) ≡ offered s.centre.now s.links.now
