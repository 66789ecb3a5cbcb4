use Rattle.graph_atoms.specs.atom_file.Views.{ghost_at}
use Rattle.graph_atoms.proofs.atom_file.FormLemmas.{records_in-more}
use Rattle.graph_atoms.proofs.atom_file.lists.ghost_lines.Goals as goal

pub loop-i-preserved : goal.loop-i-preserved
loop-i-preserved c =
    let more = records_in-more ghost_at 15 c.loop-i.i c.args.bytes.now in
    cc (c.in_ok-push.ensures.items)
