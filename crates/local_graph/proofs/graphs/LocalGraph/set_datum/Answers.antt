use Rattle.std.proofs.Common.{◌≡◌, ℕ, ◌<◌, ◌==◌, true, Some, if◌then◌else◌, length, set, ap, sym, ◌∙◌, subst, Option}
use Rattle.local_graph.specs.Locals.{LocalView, own_datum, is_own, got_at, place_at, place_of_vertex, set_where}
use Rattle.local_graph.proofs.PlaceLemmas.{got_written}
use Rattle.local_graph.proofs.RowLemmas.{own_place}
use Rattle.local_graph.proofs.graphs.LocalGraph.set_datum.Goals as goal

pub returns-clause-datum : goal.returns-clause-datum
returns-clause-datum c =
    let g = c.self.inside in
    let v = c.args.v.0 in
    let k = c.in-Some.place in
    let at : place_of_vertex g.places v ≡ Some k = sym c.place.ensures ∙ c.in-Some.is in
    let own = subst (λ (l : LocalView). is_own l v ≡ true) (sym c.self.view_is) c.requires in
    let within : k < length g.kept.items = own_place g.kept.items (place_of_vertex g.places v) k at own in
    λ x.
    subst (λ (l : LocalView). got_at (set g.kept.items k c.args.datum) (place_of_vertex g.places x) ≡ (if x == v then Some c.args.datum else own_datum l x)) c.self.view_is
    (got_written g.places g.kept.items v k c.args.datum c.self.invariant.apart at within x)

pub returns-clause-exact : goal.returns-clause-exact
returns-clause-exact c =
    let g = c.self.inside in
    let v = c.args.v.0 in
    let at : place_of_vertex g.places v ≡ Some c.in-Some.place = sym c.place.ensures ∙ c.in-Some.is in
    sym (ap (λ (o : Option ℕ). set_where g.kept.items o c.args.datum) at) ∙ ap (λ (l : LocalView). set_where l.kept (place_at l v) c.args.datum) c.self.view_is
