use Rattle.std.proofs.Common.{◌≡◌, ◌-◌}
use Rattle.graph_atoms.specs.atom_gather.Files.{atom_file_at, forms_fault}
use Rattle.graph_atoms.specs.atom_gather.Owners.{added_by, AreHeld}
use Rattle.graph_atoms.proofs.atom_gather.gathering.owners_in.Given as goal

abbrev pub invariant-loop-a : goal.invariant-loop-a
invariant-loop-a l =
    record {
      held : AreHeld l.vertices (added_by (atom_file_at l.files) l.a) l.owners;
      rest : forms_fault (atom_file_at l.files) (l.atoms - l.a) l.a ≡ forms_fault (atom_file_at l.files) l.atoms 0;
    }
