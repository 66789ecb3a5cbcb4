use Rattle.std.proofs.Common.{◌≡◌, ◌-◌, ℕ, List}
use Rattle.graph_core.specs.DataGraph.{DataGraph}
use Rattle.graph_atoms.specs.atom_cut.Atoms.{AreAtoms}
use Rattle.graph_atoms.specs.atom_gather.Files.{atom_file_at, files_fault}
use Rattle.graph_atoms.proofs.atom_gather.gathering.check_files.Given as goal

abbrev pub invariant-loop-a : goal.invariant-loop-a
invariant-loop-a l =
    (g : DataGraph) (of : List ℕ) → AreAtoms g of l.atoms l.lines → files_fault g of (atom_file_at l.files) (l.atoms - l.a) l.a ≡ files_fault g of (atom_file_at l.files) l.atoms 0
