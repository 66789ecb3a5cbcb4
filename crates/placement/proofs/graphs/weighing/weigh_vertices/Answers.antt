use Rattle.std.proofs.Common.{◌<◌, length, get_or, arith}
use Rattle.graph_atoms.proofs.atom_cut.FillLemmas.{atom_at}
use Rattle.placement.specs.graphs.Placed.{atom_numbers}
use Rattle.placement.proofs.graphs.WeighLemmas.{vertex_weighed}
use Rattle.placement.proofs.graphs.weighing.weigh_vertices.Goals as goal

pub loop-v-preserved : goal.loop-v-preserved
loop-v-preserved c =
    let v = c.loop-v.v in
    let of = c.args.of.now in
    let low : v < length of = omega (arith, c.loop-v-test.true, c.n-v-end.ensures.count, c.requires.each) in
    let atom = (get_or of v (record { 0 = 0 })).0 in
    let below : atom < length c.loop-v.weights = omega (arith, c.requires.below v (record { 0 = 0 }) low, c.loop-v.auto.weights) in
    vertex_weighed c.args.graph.now (atom_numbers of) v atom c.loop-v.weights c.loop-v.invariant (atom_at of v (record { 0 = 0 }) low) below
