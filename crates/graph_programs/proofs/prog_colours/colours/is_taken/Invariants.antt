-- Some neighbour has the colour exactly where one has it that is still to come.
use Rattle.std.proofs.Common.{◌≡◌, ◌==◌, drop}
use Rattle.std.specs.List.{list_any}
use Rattle.update_api.specs.Links.{nears_at}
use Rattle.update_api.specs.Scopes.{numbers, nears}
use Rattle.graph_programs.proofs.prog_colours.colours.is_taken.Given as goal

abbrev pub invariant-loop-i : goal.invariant-loop-i
invariant-loop-i l =
    let s = l.scope in
    list_any (λ near. near.number == l.colour) (nears s)
    ≡ list_any (λ near. near.number == l.colour) (nears_at (numbers s) s.edges.now (drop l.i s.links.now))
