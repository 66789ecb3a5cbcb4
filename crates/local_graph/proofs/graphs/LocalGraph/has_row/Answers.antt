use Rattle.std.proofs.Common.{ℕ, ◌≡◌, ◌<◌, ◌≤◌, not, None, Some, is_some, length, sym, ap, ◌∙◌, arith}
use Rattle.std.specs.Prelude.{Option}
use Rattle.std.proofs.lemmas.Bool.{le-ltb}
use Rattle.std.proofs.lemmas.List.{get_or_past}
use Rattle.local_graph.specs.Locals.{LocalView, links_at, at_place, place_of_vertex}
use Rattle.local_graph.specs.Inner.Ways.{rows_in}
use Rattle.local_graph.proofs.WayLemmas.{in_at, rows_short}
use Rattle.local_graph.proofs.graphs.LocalGraph.has_row.Goals as goal

pub index-requires : goal.index-requires
index-requires c =
    let g = c.self.inside in
    let rows : length (rows_in g.outs.items g.links) ≡ length g.kept.items = c.self.invariant.rows in
    let within = c.if-place-len.true in
    let len = c.len.ensures in
    omega (arith, rows_short g.outs.items g.links)

pub returns-then-place-len : goal.returns-then-place-len
returns-then-place-len c =
    let g = c.self.inside in
    let v = c.args.v.0 in
    let k = c.in-Some.place in
    let at : place_of_vertex g.places v ≡ Some k = sym c.place.ensures ∙ c.in-Some.is in
    let rows : length (rows_in g.outs.items g.links) ≡ length g.kept.items = c.self.invariant.rows in
    let within = c.if-place-len.true in
    let len = c.len.ensures in
    let low : k < length (rows_in g.outs.items g.links) = omega arith in
    ap not c.index.ensures
    ∙ sym (in_at g.outs.items g.links k c.index.result.now low)
    ∙ sym (ap (λ (o : Option ℕ). is_some (at_place (rows_in g.outs.items g.links) o None)) at)
    ∙ ap (λ (l : LocalView). is_some (links_at l v)) c.self.view_is

pub returns-else-place-len : goal.returns-else-place-len
returns-else-place-len c =
    let g = c.self.inside in
    let v = c.args.v.0 in
    let k = c.in-Some.place in
    let at : place_of_vertex g.places v ≡ Some k = sym c.place.ensures ∙ c.in-Some.is in
    let rows : length (rows_in g.outs.items g.links) ≡ length g.kept.items = c.self.invariant.rows in
    let past = c.if-place-len.false in
    let len = c.len.ensures in
    let gone : length (rows_in g.outs.items g.links) ≤ k = omega arith in
    le-ltb k c.len.result past
    ∙ sym (ap is_some (get_or_past (rows_in g.outs.items g.links) k None gone))
    ∙ sym (ap (λ (o : Option ℕ). is_some (at_place (rows_in g.outs.items g.links) o None)) at)
    ∙ ap (λ (l : LocalView). is_some (links_at l v)) c.self.view_is
