use Rattle.store.specs.store_format.Encoding.{saved_vertex}
use Rattle.graph_atoms.proofs.atom_file.FormLemmas.{flat_map-take_more}
use Rattle.store.proofs.store_format.encoding.push_vertices.Goals as goal

pub loop-pair-preserved : goal.loop-pair-preserved
loop-pair-preserved c =
    flat_map-take_more saved_vertex c.args.saved.now c.loop-pair.pair-index _ c.args.bytes.now.items c.loop-pair.bytes.items _ c.vertex_bytes.result c.loop-pair-test.true c.loop-pair.invariant c.vertex_bytes.ensures c.in_ok-extend_from_slice.ensures.items
