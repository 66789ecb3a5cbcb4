use Rattle.std.proofs.Common.{◌<◌, length, slice_index, ap, sym, ◌∙◌, arith}
use Rattle.std.proofs.lemmas.List.{get_or-map, length-map}
use Rattle.gl_base.specs.declared.numbers.Vertex.{Vertex}
use Rattle.graph_core.specs.Growth.{numbers_of}
use Rattle.graph_atoms.specs.atom_cut.Cuts.{atom_numbers}
use Rattle.graph_atoms.proofs.atom_cut.FillLemmas.{AllGain-around, atom_at}
use Rattle.graph_atoms.proofs.atom_cut.lines.add_around.Goals as goal

pub loop-vertex-preserved : goal.loop-vertex-preserved
loop-vertex-preserved c =
    let around = c.args.around.now in
    let i = c.loop-vertex.vertex-index in
    let of = c.args.of.now in
    let inside : i < length (numbers_of around) = omega (arith, length-map around (λ (v : Vertex). v.0)) in
    let here = get_or-map (λ (v : Vertex). v.0) around i (record { 0 = 0 }) 0 c.loop-vertex-test.true in
    let at = atom_at of _ (record { 0 = 0 }) (c.requires.inside i (record { 0 = 0 }) c.loop-vertex-test.true) in
    record {
      gained = AllGain-around (atom_numbers of) (numbers_of around) i _ c.args.line c.args.lines.now c.loop-vertex.lines c.add_ghost.new.lines inside (at ∙ ap (slice_index (atom_numbers of)) (sym here)) c.loop-vertex.invariant.count c.requires.new c.loop-vertex.invariant.gained c.in_ok-add_ghost.ensures;
      count = omega (arith, c.loop-vertex.invariant.count);
    }
