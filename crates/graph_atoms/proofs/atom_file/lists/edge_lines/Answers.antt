use Rattle.graph_atoms.specs.atom_file.Views.{edge_at}
use Rattle.graph_atoms.proofs.atom_file.FormLemmas.{records_in-more}
use Rattle.graph_atoms.proofs.atom_file.lists.edge_lines.Goals as goal

pub loop-i-preserved : goal.loop-i-preserved
loop-i-preserved c =
    let more = records_in-more edge_at 17 c.loop-i.i c.args.bytes.now in
    cc (c.in_ok-push.ensures.items)
