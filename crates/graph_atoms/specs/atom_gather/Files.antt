-- Files of atoms, and their first faults.
use Rattle.std.specs.Prelude.{◌≡◌, ℕ, zero, suc, ◌+◌, ◌<◌, ◌==◌, if◌then◌else◌, List, [], ◌∷◌, slice_get, Option, Some, None}
use Rattle.std.specs.Option.{option_or, option_map_or}
use Rattle.std.specs.declared.vec.Vec.{Vec}
use Rattle.std.specs.declared.alloc.Global.{Global}
use Rattle.gl_base.specs.declared.atoms.AtomsFault.{AtomsFault}
use Rattle.gl_base.specs.declared.atoms.AtomsKind.TheVariants as kinds
use Rattle.graph_atoms.specs.declared.atom_file.faults.AtomFault.{AtomFault}
use Rattle.graph_atoms.specs.declared.atom_file.faults.AtomFault.TheVariants.{Torn, BadTag, OutOfOrder, Trailing}
use Rattle.graph_atoms.specs.atom_file.Atoms.{atom_bytes}
use Rattle.graph_atoms.specs.atom_file.Faults.{atom_fault}
use Rattle.graph_core.specs.DataGraph.{DataGraph}
use Rattle.graph_atoms.specs.atom_cut.Atoms.{graph_atom}
use Rattle.graph_atoms.specs.atom_cut.Index.{index_bytes}

-- the file of atom a among these; a missing one has no bytes
abbrev pub atom_file_at : List (Vec ℕ Global) → ℕ → List ℕ
atom_file_at files a = option_map_or (λ (file : Vec ℕ Global). file.items) (slice_get files a) []

-- a fault of form, of this file
abbrev pub form_fault : ℕ → AtomFault → AtomsFault
form_fault file (Torn at) = record { file = file; kind = kinds.Torn; at = at }
form_fault file (BadTag at) = record { file = file; kind = kinds.BadTag; at = at }
form_fault file (OutOfOrder at) = record { file = file; kind = kinds.OutOfOrder; at = at }
form_fault file (Trailing at) = record { file = file; kind = kinds.Trailing; at = at }

abbrev pub form_of : ℕ → Option AtomFault → Option AtomsFault
form_of file None = None
form_of file (Some fault) = Some (form_fault file fault)

-- the first fault of form of the files of n atoms, from atom a on
abbrev pub forms_fault : (ℕ → List ℕ) → ℕ → ℕ → Option AtomsFault
forms_fault file zero a = None
forms_fault file (suc n) a = option_or (form_of (a + 1) (atom_fault (file a))) (forms_fault file n (a + 1))

-- the first place where two lists differ, counted from n; where one ends and the other does not, they differ there
abbrev pub difference_from : ℕ → List ℕ → List ℕ → Option ℕ
difference_from n [] [] = None
difference_from n [] (y ∷ ys) = Some n
difference_from n (x ∷ xs) [] = Some n
difference_from n (x ∷ xs) (y ∷ ys) = if x == y then difference_from (n + 1) xs ys else Some n

abbrev pub differs_of : ℕ → Option ℕ → Option AtomsFault
differs_of file None = None
differs_of file (Some at) = Some (record { file = file; kind = kinds.Differs; at = at })

-- what is wrong with a file that is to have other bytes
abbrev pub differs_fault : ℕ → List ℕ → List ℕ → Option AtomsFault
differs_fault file bytes wanted = differs_of file (difference_from 0 bytes wanted)

-- the first of n atoms, from atom a on, whose file is not that of the graph
abbrev pub files_fault : DataGraph → List ℕ → (ℕ → List ℕ) → ℕ → ℕ → Option AtomsFault
files_fault g of file zero a = None
files_fault g of file (suc n) a =
    option_or (differs_fault (a + 1) (file a) (atom_bytes (graph_atom g of a))) (files_fault g of file n (a + 1))

-- the first of the files and the index that is not that of the graph
abbrev pub cut_fault : DataGraph → List ℕ → ℕ → List ℕ → (ℕ → List ℕ) → Option AtomsFault
cut_fault g of atoms index file = option_or (files_fault g of file atoms 0) (differs_fault 0 index (index_bytes g of atoms))

-- the index and the files are those of the graph, where each vertex is in its atom
pub record AreFiles (g : DataGraph) (atoms : ℕ) (of : List ℕ) (index : List ℕ) (file : ℕ → List ℕ) : Type 0 where
  pub index_is : index ≡ index_bytes g of atoms
  pub files_are : (a : ℕ) → a < atoms → file a ≡ atom_bytes (graph_atom g of a)
