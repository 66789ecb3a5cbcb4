use Rattle.std.proofs.Common.{◌≡◌, ℕ, ◌<◌, ◌==◌, true, false, None, Some, if◌then◌else◌, length, set, get_or, refl, ap, sym, ◌∙◌, subst, arith}
use Rattle.std.specs.Prelude.{Option, List, []}
use Rattle.update_api.specs.declared.links.Link.{Link}
use Rattle.local_graph.specs.Locals.{LocalView, links_at, row_at, is_own, at_place, place_at, place_of_vertex, set_where}
use Rattle.local_graph.specs.Inner.Kept.{IsWellKept}
use Rattle.local_graph.specs.Inner.Ways.{rows_in}
use Rattle.local_graph.specs.Inner.Views.{local_view_of}
use Rattle.local_graph.proofs.RowLemmas.{sound_after, own_place, rows_after}
use Rattle.local_graph.proofs.WayLemmas.{rows_set, rows_short}
use Rattle.local_graph.proofs.graphs.LocalGraph.put_row.Goals as goal

pub invariant_of-self : goal.invariant_of-self
invariant_of-self c =
    let g = c.self.inside in
    let k = c.in-Some.place in
    let sound : IsWellKept (local_view_of g) = c.self.invariant in
    subst (λ (rows : List (Option (List Link))). IsWellKept (record (local_view_of g) { rows = rows; numbers = c.keep.new.self })) (sym (rows_set g.outs.items g.links k false))
    (sound_after (local_view_of g) k (Some (get_or g.links k [])) c.keep.new.self sound (λ there. refl) c.keep.ensures.many)

pub returns-clause-back : goal.returns-clause-back
returns-clause-back c =
    let g = c.self.inside in
    let v = c.args.v.0 in
    let k = c.in-Some.place in
    let at : place_of_vertex g.places v ≡ Some k = sym c.place.ensures ∙ c.in-Some.is in
    let own = subst (λ (l : LocalView). is_own l v ≡ true) (sym c.self.view_is) c.requires.own in
    let within = own_place g.kept.items (place_of_vertex g.places v) k at own in
    let rows : length (rows_in g.outs.items g.links) ≡ length g.kept.items = c.self.invariant.rows in
    let low : k < length (rows_in g.outs.items g.links) = omega arith in
    λ x.
    subst (λ (l : LocalView). at_place (rows_in (set g.outs.items k false) g.links) (place_of_vertex g.places x) None ≡ (if x == v then Some (row_at l v) else links_at l x)) c.self.view_is
    (rows_after g.places g.outs.items g.links v k false c.self.invariant.apart at low x
    ∙ ap (λ (o : Option ℕ). if x == v then Some (at_place g.links o []) else at_place (rows_in g.outs.items g.links) (place_of_vertex g.places x) None) (sym at))

pub returns-clause-exact : goal.returns-clause-exact
returns-clause-exact c =
    let g = c.self.inside in
    let v = c.args.v.0 in
    let k = c.in-Some.place in
    let at : place_of_vertex g.places v ≡ Some k = sym c.place.ensures ∙ c.in-Some.is in
    rows_set g.outs.items g.links k false
    ∙ sym (ap (λ (o : Option ℕ). set_where (rows_in g.outs.items g.links) o (Some (at_place g.links o []))) at)
    ∙ ap (λ (l : LocalView). set_where l.rows (place_at l v) (Some (row_at l v))) c.self.view_is

pub index_mut-requires : goal.index_mut-requires
index_mut-requires c =
    let g = c.self.inside in
    let v = c.args.v.0 in
    let k = c.in-Some.place in
    let at : place_of_vertex g.places v ≡ Some k = sym c.place.ensures ∙ c.in-Some.is in
    let own = subst (λ (l : LocalView). is_own l v ≡ true) (sym c.self.view_is) c.requires.own in
    let within = own_place g.kept.items (place_of_vertex g.places v) k at own in
    let rows : length (rows_in g.outs.items g.links) ≡ length g.kept.items = c.self.invariant.rows in
    let short = rows_short g.outs.items g.links in
    omega arith
