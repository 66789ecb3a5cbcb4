use Rattle.std.proofs.Common.{◌<◌, length, arith}
use Rattle.graph_core.specs.DataGraph.{size}
use Rattle.graph_atoms.specs.atom_cut.Cuts.{atom_numbers}
use Rattle.graph_atoms.proofs.atom_cut.FillLemmas.{AllHold-edge, atom_at, line_of_edge-is, edge_inside}
use Rattle.graph_atoms.proofs.atom_cut.lines.add_edges.Goals as goal

pub loop-e-preserved : goal.loop-e-preserved
loop-e-preserved c =
    let g = c.args.graph.now in
    let of = c.args.of.now in
    let line = c.edge-line.result in
    let edge = edge_inside g c.loop-e.e line c.m-e-end.ensures.graph (omega (arith, c.m-e-end.ensures.count)) c.edge-line.ensures in
    let from : line.from.0 < length of = omega (arith, edge.from, c.requires.each) in
    let to : line.to.0 < length of = omega (arith, edge.to, c.requires.each) in
    record {
      hold = AllHold-edge g (atom_numbers of) (size g) (size g) c.loop-e.e _ _ line c.loop-e.lines c.add_edge.new.lines c.loop-e.invariant.hold (omega arith) (atom_at of line.from.0 _ from) (atom_at of line.to.0 _ to) (line_of_edge-is g c.loop-e.e line c.edge-line.ensures) c.in_ok-add_edge.ensures;
      count = omega (arith, c.loop-e.invariant.count);
    }
