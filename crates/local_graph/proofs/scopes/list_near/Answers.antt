use Rattle.std.proofs.Common.{◌≡◌, ◌==◌, ◌&&◌, ◌||◌, List, nat_lt, take, sym, ap, ◌∙◌, arith}
use Rattle.std.proofs.lemmas.List.{map_push, take_all}
use Rattle.std.proofs.lemmas.List.Folds.{list_any_more}
use Rattle.std.specs.List.{list_any}
use Rattle.gl_base.specs.declared.numbers.Vertex.{Vertex}
use Rattle.local_graph.specs.declared.sides.Side.{Side}
use Rattle.local_graph.specs.Locals.{place_of_vertex}
use Rattle.local_graph.specs.Played.{numbers_of}
use Rattle.local_graph.specs.Inner.AtPlaces.{number_among, is_first_place}
use Rattle.local_graph.proofs.ScopeLemmas.{part_more, waits_one, last_put, none_waits}
use Rattle.local_graph.proofs.scopes.list_near.Goals as goal

pub loop-side-preserved : goal.loop-side-preserved
loop-side-preserved c = record {
  has = λ x. part_more _ _ _ _ _ _ (c.push_end-waits.ensures.has x) (c.loop-side.invariant.has x) (list_any_more _ c.args.sides.now c.loop-side.side-index _ c.loop-side-test.true);
  room = omega (arith, waits_one c.loop-side.waits);
  enough = omega arith;
}

pub returns-then-waits : goal.returns-then-waits
returns-then-waits c = λ x.
    let s = c.args.standing.now in
    let v = c.args.v in
    let sides = c.args.sides.now in
    let all : take c.loop-side.side-index sides ≡ sides = take_all c.loop-side.side-index sides (omega arith) in
    ap (λ (vs : List Vertex). number_among x (numbers_of vs)) c.push_reserved.ensures.items
    ∙ ap (number_among x) (map_push (λ (u : Vertex). u.0) c.loop-side.list.items v) ∙ last_put (numbers_of c.loop-side.list.items) x v.0
    ∙ sym (ap (λ w. number_among x (numbers_of c.loop-side.list.items) || (w && x == v.0)) c.if-waits.true)
    ∙ c.loop-side.invariant.has x
    ∙ ap (λ (ss : List Side). (is_first_place s.many (place_of_vertex s.places.now v.0) && x == v.0) || list_any (λ t. nat_lt t.place s.many && t.other.0 == x) ss) all

pub returns-else-waits : goal.returns-else-waits
returns-else-waits c = λ x.
    let s = c.args.standing.now in
    let v = c.args.v in
    let sides = c.args.sides.now in
    let all : take c.loop-side.side-index sides ≡ sides = take_all c.loop-side.side-index sides (omega arith) in
    sym (none_waits (number_among x (numbers_of c.loop-side.list.items)) c.loop-side.waits (x == v.0) c.if-waits.false)
    ∙ c.loop-side.invariant.has x
    ∙ ap (λ (ss : List Side). (is_first_place s.many (place_of_vertex s.places.now v.0) && x == v.0) || list_any (λ t. nat_lt t.place s.many && t.other.0 == x) ss) all
