-- What atoms weigh.
pub use Rattle.graph_atoms.specs.atom_cut.Cuts.{IsGrowthCut}
pub use Rattle.graph_atoms.specs.atom_place.Placing.{IsBalanced, IsPlacing}
use Rattle.std.specs.Prelude.{ℕ, ◌+◌, List, length, map}
use Rattle.std.specs.List.{range_with_len}
use Rattle.graph_core.specs.DataGraph.{DataGraph}
use Rattle.graph_atoms.specs.atom_cut.Atoms.{graph_atom}

-- how many vertices and edges an atom has
abbrev pub atom_weight : DataGraph → List ℕ → ℕ → ℕ
atom_weight g of a = length (graph_atom g of a).vertices + length (graph_atom g of a).edges

-- those of so many atoms, in turn
abbrev pub atom_weights : DataGraph → List ℕ → ℕ → List ℕ
atom_weights g of atoms = map (atom_weight g of) (range_with_len 0 atoms)
