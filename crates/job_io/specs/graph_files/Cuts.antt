-- The files of a cut.
use Rattle.std.specs.Prelude.{ℕ, zero, suc, List}
use Rattle.graph_core.specs.DataGraph.{DataGraph}
use Rattle.graph_atoms.specs.atom_file.Atoms.{atom_bytes}
use Rattle.graph_atoms.specs.atom_cut.Atoms.{graph_atom}
use Rattle.graph_atoms.specs.atom_cut.Cuts.{IsGrowthCut}
use Rattle.graph_atoms.specs.atom_cut.Index.{index_bytes}

-- what file 0, the index, has, and file a + 1, that of atom a, where each vertex is in its atom
abbrev pub cut_text : DataGraph → List ℕ → ℕ → ℕ → List ℕ
cut_text g of atoms zero = index_bytes g of atoms
cut_text g of atoms (suc a) = atom_bytes (graph_atom g of a)

-- this holds of the files of the graph's cut by growth into so many atoms
abbrev pub OfCut : DataGraph → ℕ → ((ℕ → List ℕ) → Type 0) → Type 0
OfCut g atoms P = (of : List ℕ) × IsGrowthCut g atoms of × P (cut_text g of atoms)
