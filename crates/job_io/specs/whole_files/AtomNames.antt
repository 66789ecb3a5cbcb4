-- The names of the files of a cut.
use Rattle.std.specs.Prelude.{ℕ, zero, suc, ◌+◌, List, ◌++◌, map, codes, decimal}
use Rattle.std.specs.List.{range_with_len}

-- the index at a prefix, and the file of atom a
abbrev pub index_name : List ℕ → List ℕ
index_name prefix = prefix ++ codes ".index"

abbrev pub atom_name : List ℕ → ℕ → List ℕ
atom_name prefix a = ((prefix ++ codes ".") ++ decimal a) ++ codes ".atom"

-- file 0 is the index, and file a + 1 is that of atom a
abbrev pub cut_name : List ℕ → ℕ → List ℕ
cut_name prefix zero = index_name prefix
cut_name prefix (suc a) = atom_name prefix a

-- the index and so many atoms, in turn
abbrev pub cut_names : List ℕ → ℕ → List (List ℕ)
cut_names prefix atoms = map (cut_name prefix) (range_with_len 0 (atoms + 1))
