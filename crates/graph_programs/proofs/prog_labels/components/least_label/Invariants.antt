-- What was seen so far and what is left offer as low a label as all.
use Rattle.std.proofs.Common.{◌≡◌, drop, map}
use Rattle.update_api.specs.Links.{nears_at}
use Rattle.update_api.specs.Scopes.{numbers}
use Rattle.update_api.specs.Updates.{least}
use Rattle.graph_programs.proofs.prog_labels.components.least_label.Given as goal

abbrev pub invariant-loop-i : goal.invariant-loop-i
invariant-loop-i l =
    let s = l.scope in
    least l.label (map (λ near. near.number) (nears_at (numbers s) s.edges.now (drop l.i s.links.now)))
    ≡ least s.centre.now (map (λ near. near.number) (nears_at (numbers s) s.edges.now s.links.now))
