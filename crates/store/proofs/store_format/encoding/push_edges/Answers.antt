use Rattle.store.specs.store_format.Encoding.{saved_edge}
use Rattle.graph_atoms.proofs.atom_file.FormLemmas.{flat_map-take_more}
use Rattle.store.proofs.store_format.encoding.push_edges.Goals as goal

pub loop-pair-preserved : goal.loop-pair-preserved
loop-pair-preserved c =
    flat_map-take_more saved_edge c.args.saved.now c.loop-pair.pair-index _ c.args.bytes.now.items c.loop-pair.bytes.items _ c.edge_bytes.result c.loop-pair-test.true c.loop-pair.invariant c.edge_bytes.ensures c.in_ok-extend_from_slice.ensures.items
