use Rattle.std.proofs.Common.{sym}
use Rattle.graph_atoms.specs.atom_file.Views.{ghost_at}
use Rattle.graph_atoms.proofs.atom_file.FormLemmas.{length-records_in}
use Rattle.graph_atoms.proofs.atom_file.view.AtomView.ghosts.Goals as goal

pub returns : goal.returns
returns c =
    rw (← c.self.view_is)
    (sym (length-records_in ghost_at 15 c.self.inside.ghost_count c.self.inside.ghosts.now))
