use Rattle.std.proofs.Common.{sym}
use Rattle.graph_atoms.specs.atom_file.Views.{vertex_at}
use Rattle.graph_atoms.proofs.atom_file.FormLemmas.{length-records_in}
use Rattle.graph_atoms.proofs.atom_file.view.AtomView.vertices.Goals as goal

pub returns : goal.returns
returns c =
    rw (← c.self.view_is)
    (sym (length-records_in vertex_at 13 c.self.inside.vertex_count c.self.inside.vertices.now))
