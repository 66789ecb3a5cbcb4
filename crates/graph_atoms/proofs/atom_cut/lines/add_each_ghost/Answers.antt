use Rattle.std.proofs.Common.{◌<◌, length, refl, ap, sym, ◌∙◌, arith}
use Rattle.graph_core.specs.DataGraph.{size}
use Rattle.graph_core.specs.Growth.{numbers_of}
use Rattle.graph_core.proofs.GrowthLemmas.{neighbours_below}
use Rattle.graph_atoms.specs.atom_cut.Cuts.{atom_numbers}
use Rattle.graph_atoms.proofs.atom_cut.FillLemmas.{AllHold-ghost, AllHold-new, ghost_line-is, atom_at}
use Rattle.graph_atoms.proofs.atom_cut.lines.add_each_ghost.Goals as goal

pub add_around-requires-clause-inside : goal.add_around-requires-clause-inside
add_around-requires-clause-inside c =
    rw c.deref.ensures.value
    (neighbours_below c.args.graph.now c.loop-v.v (length c.args.of.now) c.list_neighbours.new.list.items (sym c.requires.each) c.in_ok-list_neighbours.ensures.neighbours)

pub add_around-requires-clause-new : goal.add_around-requires-clause-new
add_around-requires-clause-new c =
    AllHold-new c.args.graph.now (atom_numbers c.args.of.now) (size c.args.graph.now) c.loop-v.v 0 c.loop-v.lines c.loop-v.invariant.hold

pub loop-v-preserved : goal.loop-v-preserved
loop-v-preserved c =
    let g = c.args.graph.now in
    let v = c.loop-v.v in
    let of = c.args.of.now in
    let inside : v < length of = omega (arith, c.n-v-end.ensures.count, c.requires.each) in
    let near = ap numbers_of c.deref.ensures.value ∙ c.in_ok-list_neighbours.ensures.neighbours in
    let line = ghost_line-is g (atom_numbers of) v _ _ _ refl c.id.ensures (atom_at of v (record { 0 = 0 }) inside) in
    record {
      hold = AllHold-ghost g (atom_numbers of) (size g) v 0 _ _ c.loop-v.lines c.add_around.new.lines c.loop-v.invariant.hold (omega arith) near line c.in_ok-add_around.ensures;
      count = omega (arith, c.loop-v.invariant.count);
    }
