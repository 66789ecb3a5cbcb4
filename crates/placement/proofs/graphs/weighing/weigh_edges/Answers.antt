use Rattle.std.proofs.Common.{◌<◌, length, arith}
use Rattle.graph_core.specs.DataGraph.{size}
use Rattle.graph_atoms.proofs.atom_cut.FillLemmas.{atom_at, edge_inside}
use Rattle.placement.specs.graphs.Placed.{atom_numbers}
use Rattle.placement.proofs.graphs.WeighLemmas.{edge_weighed}
use Rattle.placement.proofs.graphs.weighing.weigh_edges.Goals as goal

pub loop-e-preserved : goal.loop-e-preserved
loop-e-preserved c =
    let g = c.args.graph.now in
    let of = c.args.of.now in
    let e = c.loop-e.e in
    let line = c.edge-line.result in
    let edge = edge_inside g e line c.m-e-end.ensures.graph (omega (arith, c.m-e-end.ensures.count)) c.edge-line.ensures in
    let from : line.from.0 < length of = omega (arith, edge.from, c.requires.each) in
    let to : line.to.0 < length of = omega (arith, edge.to, c.requires.each) in
    edge_weighed g (atom_numbers of) (size g) e _ _ line c.loop-e.weights c.weigh_edge.new.weights c.loop-e.invariant (omega arith) (atom_at of line.from.0 _ from) (atom_at of line.to.0 _ to) c.edge-line.ensures c.weigh_edge.ensures.each
