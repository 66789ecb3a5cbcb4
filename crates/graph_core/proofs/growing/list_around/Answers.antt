use Rattle.std.proofs.Common.{◌≡◌, ◌<◌, ◌++◌, ℕ, List, length, get_or, slice_index, sym, ap, ◌∙◌, arith}
use Rattle.std.proofs.lemmas.List.{get_or-map, length-map}
use Rattle.std.proofs.lemmas.Result.{on_ok_weaker}
use Rattle.gl_base.specs.declared.numbers.Vertex.{Vertex}
use Rattle.graph_core.specs.Growth.{numbers_of, unlisted}
use Rattle.graph_core.specs.Neighbours.{neighbours_of}
use Rattle.graph_core.proofs.GrowthLemmas.{neighbours_ascend, neighbours_below}
use Rattle.graph_core.proofs.growing.list_around.Goals as goal

-- the number of a vertex in a list
number_at : (listed : List Vertex) (place : ℕ) (v : Vertex) → place < length listed → v ≡ get_or listed place v → slice_index (numbers_of listed) place ≡ v.0
number_at listed place v inside is = get_or-map (λ (u : Vertex). u.0) listed place v 0 inside ∙ sym (ap (λ (u : Vertex). u.0) is)

pub list_neighbours-requires : goal.list_neighbours-requires
list_neighbours-requires c =
    let listed = c.args.listed.now.items in
    let here = number_at listed c.args.place c.index.result.now c.requires.inside c.index.ensures in
    let below = c.requires.marks.below c.args.place 0 (omega (arith, length-map listed (λ (u : Vertex). u.0))) in
    omega (arith, here, below, c.requires.room)

pub list_new-requires-clause-inside : goal.list_new-requires-clause-inside
list_new-requires-clause-inside c =
    rw c.deref.ensures.value
    (neighbours_below c.args.graph.now c.index.result.now.0 (length c.args.marks.now) c.list_neighbours.new.list.items (sym c.requires.room) c.in_ok-list_neighbours.ensures.neighbours)

pub list_new-requires-clause-ascending : goal.list_new-requires-clause-ascending
list_new-requires-clause-ascending c =
    rw c.deref.ensures.value
    (neighbours_ascend c.args.graph.now c.index.result.now.0 (numbers_of c.list_neighbours.new.list.items) c.in_ok-list_neighbours.ensures.neighbours)

pub returns-clause-listed : goal.returns-clause-listed
returns-clause-listed c =
    let old = numbers_of c.args.listed.now.items in
    let here = number_at c.args.listed.now.items c.args.place c.index.result.now c.requires.inside c.index.ensures in
    let row = ap numbers_of c.deref.ensures.value ∙ c.in_ok-list_neighbours.ensures.neighbours ∙ ap (neighbours_of c.args.graph.now) (sym here) in
    on_ok_weaker c.list_new.result (λ grown. grown ∙ ap (λ (vs : List ℕ). old ++ unlisted old vs) row) c.list_new.ensures.listed
