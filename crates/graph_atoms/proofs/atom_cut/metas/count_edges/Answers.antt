use Rattle.std.proofs.Common.{◌<◌, length, arith}
use Rattle.graph_atoms.specs.atom_cut.Cuts.{atom_numbers}
use Rattle.graph_atoms.proofs.atom_cut.FillLemmas.{atom_at, edge_inside}
use Rattle.graph_atoms.proofs.atom_cut.CountLemmas.{counted_more}
use Rattle.graph_atoms.proofs.atom_cut.metas.count_edges.Goals as goal

pub loop-e-preserved : goal.loop-e-preserved
loop-e-preserved c =
    let g = c.args.graph.now in
    let of = c.args.of.now in
    let e = c.loop-e.e in
    let line = c.edge-line.result in
    let edge = edge_inside g e line c.m-e-end.ensures.graph (omega (arith, c.m-e-end.ensures.count)) c.edge-line.ensures in
    let from : line.from.0 < length of = omega (arith, edge.from, c.requires.each) in
    let to : line.to.0 < length of = omega (arith, edge.to, c.requires.each) in
    counted_more g (atom_numbers of) c.args.atoms e _ _ line c.loop-e.counts c.count_edge.new.counts c.loop-e.invariant (omega arith) (atom_at of line.from.0 _ from) (atom_at of line.to.0 _ to) c.edge-line.ensures c.count_edge.ensures.each c.count_edge.ensures.few
