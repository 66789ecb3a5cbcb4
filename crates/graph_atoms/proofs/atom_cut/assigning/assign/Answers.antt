use Rattle.std.proofs.Common.{◌≡◌, ◌*◌, ◌/◌, ◌<◌, ℕ, length, get_or, slice_index, ap, ◌∙◌, arith}
use Rattle.std.proofs.lemmas.List.{get_or-map, map-set, length-map}
use Rattle.std.proofs.lemmas.List.Elements.{All-set}
use Rattle.gl_base.specs.declared.numbers.AtomNo.{AtomNo}
use Rattle.gl_base.specs.declared.numbers.Vertex.{Vertex}
use Rattle.graph_core.specs.Growth.{numbers_of}
use Rattle.graph_atoms.specs.atom_cut.Cuts.{atom_numbers}
use Rattle.graph_atoms.proofs.atom_cut.AssignLemmas.{assigned-more}
use Rattle.graph_atoms.proofs.atom_cut.assigning.assign.Goals as goal

pub bounds-of-vertex : goal.bounds-of-vertex
bounds-of-vertex c =
    let order = c.args.order.now in
    let place = c.loop-place.place in
    let here = get_or-map (λ (v : Vertex). v.0) order place (record { 0 = 0 }) 0 c.loop-place-test.true in
    omega (arith, here, c.requires.once.below place 0 (omega (arith, length-map order (λ (v : Vertex). v.0))))

pub loop-place-preserved : goal.loop-place-preserved
loop-place-preserved c =
    let order = c.args.order.now in
    let place = c.loop-place.place in
    let number : AtomNo → ℕ = λ a. a.0 in
    let vertex : Vertex = get_or order place (record { 0 = 0 }) in
    let here : slice_index (numbers_of order) place ≡ vertex.0 = get_or-map (λ (v : Vertex). v.0) order place (record { 0 = 0 }) 0 c.loop-place-test.true in
    let inside : place < length (numbers_of order) = omega (arith, length-map order (λ (v : Vertex). v.0)) in
    let below : slice_index (numbers_of order) place < length (atom_numbers c.loop-place.of) = omega (arith, c.requires.once.below place 0 inside, length-map c.loop-place.of number) in
    let is : c.fallen.result.0 ≡ place * c.args.atoms / length c.args.of.now = c.fallen.ensures.value ∙ ap (λ (n : ℕ). place * c.args.atoms / n) (omega arith) in
    let more = assigned-more (length c.args.of.now) (numbers_of order) (atom_numbers c.loop-place.of) (λ p. p * c.args.atoms / length c.args.of.now) place c.fallen.result.0 c.requires.once inside below is c.loop-place.invariant.place in
    record {
      place = rw (map-set number c.loop-place.of vertex.0 c.fallen.result, ← here) more;
      below = All-set (λ (a : AtomNo). a.0 < c.args.atoms) c.loop-place.of vertex.0 c.fallen.result c.fallen.ensures.below c.loop-place.invariant.below;
    }
