-- Atoms that are gathered from their files.
use Rattle.std.specs.Prelude.{◌≡◌, ℕ, ◌<◌, ◌≤◌, List, length, All, Option}
use Rattle.std.specs.Option.{option_or}
use Rattle.gl_base.specs.declared.atoms.AtomsFault.{AtomsFault}
use Rattle.graph_core.specs.DataGraph.{DataGraph, size}
use Rattle.graph_atoms.specs.atom_gather.IndexForm.{atoms_in, index_fault}
use Rattle.graph_atoms.specs.atom_gather.Files.{form_of, forms_fault, cut_fault}
use Rattle.graph_atoms.specs.atom_gather.Owners.{added_by, owner_fault, owners_of}

-- each vertex is in one of so many atoms
pub record IsAssignment (g : DataGraph) (atoms : ℕ) (of : List ℕ) : Type 0 where
  pub some : 1 ≤ atoms
  pub few : atoms ≤ 1024
  pub each : length of ≡ size g
  pub below : All (λ a. a < atoms) of

-- the atom of each vertex of a graph, as an index and the files of its atoms say
abbrev pub told_owners : DataGraph → List ℕ → (ℕ → List ℕ) → List ℕ
told_owners g index file = owners_of (size g) (added_by file (atoms_in index))

-- The first fault of an index and the files of its atoms: the form of the index, the form of each file, a vertex that is
-- not in exactly one atom, a file that is not that of the graph's atom, and an index that is not that of the graph.
abbrev pub gather_fault : DataGraph → List ℕ → (ℕ → List ℕ) → Option AtomsFault
gather_fault g index file =
    option_or (form_of 0 (index_fault index))
    (option_or (forms_fault file (atoms_in index) 0)
    (option_or (owner_fault (size g) (added_by file (atoms_in index)))
    (cut_fault g (told_owners g index file) (atoms_in index) index file)))
