use Rattle.std.proofs.Common.{sym}
use Rattle.graph_atoms.specs.atom_file.Views.{edge_at}
use Rattle.graph_atoms.proofs.atom_file.FormLemmas.{length-records_in}
use Rattle.graph_atoms.proofs.atom_file.view.AtomView.edges.Goals as goal

pub returns : goal.returns
returns c =
    rw (← c.self.view_is)
    (sym (length-records_in edge_at 17 c.self.inside.edge_count c.self.inside.edges.now))
