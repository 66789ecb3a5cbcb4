use Rattle.std.proofs.Common.{ℕ, ◌≡◌, ◌<◌, ◌==◌, true, None, Some, is_some, if◌then◌else◌, length, set, refl, sym, ap, ◌∙◌, subst, arith}
use Rattle.std.specs.Prelude.{Option, List, []}
use Rattle.std.proofs.lemmas.Bool.{true≢false}
use Rattle.update_api.specs.declared.links.Link.{Link}
use Rattle.local_graph.specs.Locals.{LocalView, links_at, sides_at, at_place, place_of_vertex}
use Rattle.local_graph.specs.Inner.Kept.{IsWellKept}
use Rattle.local_graph.specs.Inner.Ways.{rows_in}
use Rattle.local_graph.specs.Inner.Views.{local_view_of}
use Rattle.local_graph.proofs.RowLemmas.{sound_after, row_place, rows_after}
use Rattle.local_graph.proofs.WayLemmas.{rows_set, rows_short}
use Rattle.local_graph.proofs.graphs.LocalGraph.take_row.Goals as goal

pub invariant_of-self : goal.invariant_of-self
invariant_of-self c =
    let g = c.self.inside in
    let k = c.in-Some.place in
    let none : Option (List Link) = None in
    let sound : IsWellKept (local_view_of g) = c.self.invariant in
    subst (λ (rows : List (Option (List Link))). IsWellKept (record (local_view_of g) { rows = rows })) (sym (rows_set g.outs.items g.links k true))
    (sound_after (local_view_of g) k none g.numbers sound (λ there. absurd (true≢false (sym there))) refl)

pub returns-clause-out : goal.returns-clause-out
returns-clause-out c =
    let g = c.self.inside in
    let v = c.args.v.0 in
    let k = c.in-Some.place in
    let at : place_of_vertex g.places v ≡ Some k = sym c.place.ensures ∙ c.in-Some.is in
    let there = subst (λ (l : LocalView). is_some (links_at l v) ≡ true) (sym c.self.view_is) c.requires.row in
    let low = row_place (rows_in g.outs.items g.links) (place_of_vertex g.places v) k at there in
    λ x.
    subst (λ (l : LocalView). at_place (rows_in (set g.outs.items k true) g.links) (place_of_vertex g.places x) None ≡ (if x == v then None else links_at l x)) c.self.view_is
    (rows_after g.places g.outs.items g.links v k true c.self.invariant.apart at low x)

pub index_mut-requires : goal.index_mut-requires
index_mut-requires c =
    let g = c.self.inside in
    let v = c.args.v.0 in
    let k = c.in-Some.place in
    let at : place_of_vertex g.places v ≡ Some k = sym c.place.ensures ∙ c.in-Some.is in
    let there = subst (λ (l : LocalView). is_some (links_at l v) ≡ true) (sym c.self.view_is) c.requires.row in
    let low = row_place (rows_in g.outs.items g.links) (place_of_vertex g.places v) k at there in
    let short = rows_short g.outs.items g.links in
    omega arith

pub returns-clause-many : goal.returns-clause-many
returns-clause-many c =
    let g = c.self.inside in
    let v = c.args.v.0 in
    let k = c.in-Some.place in
    let at : place_of_vertex g.places v ≡ Some k = sym c.place.ensures ∙ c.in-Some.is in
    let there = subst (λ (l : LocalView). is_some (links_at l v) ≡ true) (sym c.self.view_is) c.requires.row in
    let low = row_place (rows_in g.outs.items g.links) (place_of_vertex g.places v) k at there in
    let rows : length (rows_in g.outs.items g.links) ≡ length g.kept.items = c.self.invariant.rows in
    let links = c.self.invariant.links in
    let inside : k < length g.links = omega arith in
    ap length c.fill-links.ensures ∙ c.self.invariant.fit k inside
    ∙ sym (ap (λ (o : Option ℕ). length (at_place g.sides o [])) at)
    ∙ ap (λ (l : LocalView). length (sides_at l v)) c.self.view_is
