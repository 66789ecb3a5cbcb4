use Rattle.std.proofs.Common.{◌<◌, ℕ, length, ap, arith}
use Rattle.graph_atoms.specs.atom_cut.Cuts.{atom_numbers}
use Rattle.graph_atoms.proofs.atom_cut.FillLemmas.{AllHold-vertex, atom_at}
use Rattle.graph_atoms.proofs.atom_cut.lines.add_vertices.Goals as goal

pub loop-v-preserved : goal.loop-v-preserved
loop-v-preserved c =
    let v = c.loop-v.v in
    let inside : v < length c.args.of.now = omega (arith, c.n-v-end.ensures.count, c.requires.each) in
    record {
      hold = AllHold-vertex c.args.graph.now (atom_numbers c.args.of.now) v 0 0 _ _ c.loop-v.lines c.add_vertex.new.lines c.loop-v.invariant.hold (omega arith) (atom_at c.args.of.now v _ inside) (ap (λ (i : ℕ). record { vertex = record { 0 = v }; id = i }) c.id-id.ensures) c.in_ok-add_vertex.ensures;
      count = omega (arith, c.loop-v.invariant.count);
    }
