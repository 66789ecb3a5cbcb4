use Rattle.graph_atoms.specs.atom_file.Atoms.{edge_record}
use Rattle.graph_atoms.proofs.atom_file.FormLemmas.{flat_map-take_more}
use Rattle.graph_atoms.proofs.atom_file.writing.push_edges.Goals as goal

pub loop-line-preserved : goal.loop-line-preserved
loop-line-preserved c =
    flat_map-take_more edge_record c.args.lines.now c.loop-line.line-index _ c.args.file.now.items c.loop-line.file.items _ c.edge_record.result c.loop-line-test.true c.loop-line.invariant c.edge_record.ensures c.in_ok-extend_from_slice.ensures.items
