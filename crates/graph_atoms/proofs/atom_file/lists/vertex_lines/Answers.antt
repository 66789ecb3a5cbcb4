use Rattle.graph_atoms.specs.atom_file.Views.{vertex_at}
use Rattle.graph_atoms.proofs.atom_file.FormLemmas.{records_in-more}
use Rattle.graph_atoms.proofs.atom_file.lists.vertex_lines.Goals as goal

pub loop-i-preserved : goal.loop-i-preserved
loop-i-preserved c =
    let more = records_in-more vertex_at 13 c.loop-i.i c.args.bytes.now in
    cc (c.in_ok-push.ensures.items)
