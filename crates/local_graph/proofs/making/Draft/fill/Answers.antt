use Rattle.std.proofs.Common.{◌||◌, nat_lt, List, All, map, sym, ◌∙◌, subst}
use Rattle.std.proofs.lemmas.List.Elements.{All-filter}
use Rattle.local_graph.specs.declared.sides.Side.{Side}
use Rattle.local_graph.specs.Played.{side_of}
use Rattle.local_graph.specs.Inner.AtPlaces.{IsSideTo}
use Rattle.local_graph.proofs.ScopeLemmas.{sides_lead}
use Rattle.local_graph.proofs.making.Draft.fill.Goals as goal

pub fill_scope-requires-clause-sides : goal.fill_scope-requires-clause-sides
fill_scope-requires-clause-sides c =
    let s = c.args.standing.now in
    let side = side_of s.me s.many s.ghosts.now s.places.now in
    subst (λ (ss : List Side). All (IsSideTo s.places.now) ss) (sym (c.deref.ensures.value ∙ c.in_ok-fill_sides.ensures))
    (All-filter (λ (t : Side). c.args.is_own || nat_lt t.place s.many) (IsSideTo s.places.now) (map side c.args.halves.now) (sides_lead s.me s.many s.ghosts.now s.places.now c.args.halves.now))
