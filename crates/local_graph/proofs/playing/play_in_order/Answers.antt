use Rattle.std.proofs.Common.{◌≡◌, ◌<◌, true, List, All, length, sym, ap, ◌∙◌, subst, arith}
use Rattle.std.proofs.lemmas.List.Sorted.{length_permutation}
use Rattle.gl_base.specs.declared.numbers.Vertex.{Vertex}
use Rattle.local_graph.specs.Locals.{AreTheirPlaces}
use Rattle.local_graph.specs.Played.{numbers_of, side_of}
use Rattle.local_graph.specs.Inner.AtPlaces.{number_among}
use Rattle.local_graph.specs.Inner.ByPlace.{AreMadeTo, known_vertices}
use Rattle.local_graph.proofs.LowLemmas.{ordered_low, length-known}
use Rattle.local_graph.proofs.PlayLemmas.{IsMade, joined, joined_made, made_played, made_sound}
use Rattle.local_graph.proofs.ScopeLemmas.{first_owned}
use Rattle.local_graph.proofs.playing.play_in_order.Goals as goal

pub new-requires-clause-below : goal.new-requires-clause-below
new-requires-clause-below c =
    let low = ordered_low c.args.outline.vertices c.args.lines.now.own.now c.args.order.now c.args.lines.now.ghosts.now c.requires.order c.requires.vertices c.requires.ghosts in
    subst (λ (vs : List Vertex). All (λ (v : Vertex). v.0 < c.args.outline.vertices) vs) (sym (c.deref.ensures.value ∙ c.in_ok-known.ensures)) low

pub new-requires-clause-few : goal.new-requires-clause-few
new-requires-clause-few c =
    let same = length_permutation c.args.lines.now.own.now c.args.order.now c.requires.order in
    let is = ap length (c.deref.ensures.value ∙ c.in_ok-known.ensures) in
    let few = c.requires.few in
    omega (arith, length-known c.args.order.now c.args.lines.now.ghosts.now)

pub are_plain-requires : goal.are_plain-requires
are_plain-requires c = λ x first.
    let stand : AreTheirPlaces c.in_ok-places.places (known_vertices c.args.order.now c.args.lines.now.ghosts.now) =
    subst (λ (vs : List Vertex). AreTheirPlaces c.in_ok-places.places vs) (c.deref.ensures.value ∙ c.in_ok-known.ensures) c.in_ok-places.ensures in
    subst (λ (vs : List Vertex). number_among x (numbers_of vs) ≡ true) (sym (c.deref-4.ensures.value ∙ c.in_ok-owned.ensures))
    (first_owned c.args.lines.now.own.now c.args.order.now c.args.lines.now.ghosts.now c.in_ok-places.places x c.requires.order stand first)

pub make_by_place-requires-clause-few : goal.make_by_place-requires-clause-few
make_by_place-requires-clause-few c =
    let same = length_permutation c.args.lines.now.own.now c.args.order.now c.requires.order in
    let few = c.requires.few in
    let limit = c.requires.limit in
    omega arith

pub make_by_place-requires-clause-below : goal.make_by_place-requires-clause-below
make_by_place-requires-clause-below c =
    let low = ordered_low c.args.outline.vertices c.args.lines.now.own.now c.args.order.now c.args.lines.now.ghosts.now c.requires.order c.requires.vertices c.requires.ghosts in
    let all = subst (λ (vs : List Vertex). All (λ (v : Vertex). v.0 < c.args.outline.vertices) vs) (sym (c.deref-2.ensures.value ∙ c.in_ok-known.ensures)) low in
    λ i d inside. let below = all i d inside in let many = c.requires.many in omega arith

pub invariant_of-result : goal.invariant_of-result
invariant_of-result c =
    let known = c.in_ok-known.known.items in
    let owned = c.in_ok-owned.owned.items in
    let places = c.in_ok-places.places in
    let lists = c.in_ok-lists.lists in
    let n = length c.args.order.now in
    let side = side_of c.args.lines.now.me n c.args.lines.now.ghosts.now places in
    let low = ordered_low c.args.outline.vertices c.args.lines.now.own.now c.args.order.now c.args.lines.now.ghosts.now c.requires.order c.requires.vertices c.requires.ghosts in
    let below : All (λ (v : Vertex). v.0 < c.args.outline.vertices) known = subst (λ (vs : List Vertex). All (λ (v : Vertex). v.0 < c.args.outline.vertices) vs) (sym c.in_ok-known.ensures) low in
    let stand : AreTheirPlaces places known = subst (λ (vs : List Vertex). AreTheirPlaces places vs) c.deref.ensures.value c.in_ok-places.ensures in
    let lists_made : AreMadeTo side n c.args.lines.now.me c.args.outline.machines c.args.halves.now known owned n (length known) lists =
    subst (λ (vs : List Vertex). AreMadeTo side n c.args.lines.now.me c.args.outline.machines c.args.halves.now known vs n (length known) lists) c.deref-3.ensures.value
    (subst (λ (vs : List Vertex). AreMadeTo side n c.args.lines.now.me c.args.outline.machines c.args.halves.now vs c.deref-3.result.now n (length vs) lists) c.deref-2.ensures.value c.in_ok-lists.ensures) in
    let made : IsMade c.args.lines.now.me c.args.lines.now.own.now c.args.lines.now.ghosts.now c.args.outline c.args.halves.now c.args.order.now (joined c.args.lines.now.me owned places lists c.in_ok-beside.beside) =
    joined_made c.args.lines.now.me c.args.lines.now.own.now c.args.lines.now.ghosts.now c.args.outline c.args.halves.now c.args.order.now known owned places lists c.in_ok-beside.beside
    c.in_ok-known.ensures c.in_ok-owned.ensures c.requires.order stand below lists_made c.in_ok-beside.ensures in
    let same = length_permutation c.args.lines.now.own.now c.args.order.now c.requires.order in
    let fit = c.requires.few in
    let limit = c.requires.limit in
    let few : length (known_vertices c.args.order.now c.args.lines.now.ghosts.now) < 4294967295 = omega (arith, length-known c.args.order.now c.args.lines.now.ghosts.now) in
    made_sound c.args.lines.now.me c.args.lines.now.own.now c.args.lines.now.ghosts.now c.args.outline c.args.halves.now c.args.order.now (joined c.args.lines.now.me owned places lists c.in_ok-beside.beside) made few c.requires.edges

pub returns : goal.returns
returns c = λ at are back.
    let same = length_permutation c.args.lines.now.own.now c.args.order.now c.requires.order in
    let fit = c.requires.few in
    let limit = c.requires.limit in
    let few : length c.args.order.now < 4294967295 = omega arith in
    let known = c.in_ok-known.known.items in
    let owned = c.in_ok-owned.owned.items in
    let places = c.in_ok-places.places in
    let lists = c.in_ok-lists.lists in
    let n = length c.args.order.now in
    let side = side_of c.args.lines.now.me n c.args.lines.now.ghosts.now places in
    let low = ordered_low c.args.outline.vertices c.args.lines.now.own.now c.args.order.now c.args.lines.now.ghosts.now c.requires.order c.requires.vertices c.requires.ghosts in
    let below : All (λ (v : Vertex). v.0 < c.args.outline.vertices) known = subst (λ (vs : List Vertex). All (λ (v : Vertex). v.0 < c.args.outline.vertices) vs) (sym c.in_ok-known.ensures) low in
    let stand : AreTheirPlaces places known = subst (λ (vs : List Vertex). AreTheirPlaces places vs) c.deref.ensures.value c.in_ok-places.ensures in
    let lists_made : AreMadeTo side n c.args.lines.now.me c.args.outline.machines c.args.halves.now known owned n (length known) lists =
    subst (λ (vs : List Vertex). AreMadeTo side n c.args.lines.now.me c.args.outline.machines c.args.halves.now known vs n (length known) lists) c.deref-3.ensures.value
    (subst (λ (vs : List Vertex). AreMadeTo side n c.args.lines.now.me c.args.outline.machines c.args.halves.now vs c.deref-3.result.now n (length vs) lists) c.deref-2.ensures.value c.in_ok-lists.ensures) in
    let made : IsMade c.args.lines.now.me c.args.lines.now.own.now c.args.lines.now.ghosts.now c.args.outline c.args.halves.now c.args.order.now (joined c.args.lines.now.me owned places lists c.in_ok-beside.beside) =
    joined_made c.args.lines.now.me c.args.lines.now.own.now c.args.lines.now.ghosts.now c.args.outline c.args.halves.now c.args.order.now known owned places lists c.in_ok-beside.beside
    c.in_ok-known.ensures c.in_ok-owned.ensures c.requires.order stand below lists_made c.in_ok-beside.ensures in
    made_played c.args.lines.now.me c.args.lines.now.own.now c.args.lines.now.ghosts.now c.args.outline c.args.halves.now c.args.order.now (joined c.args.lines.now.me owned places lists c.in_ok-beside.beside) made few at are back
