-- How a graph is cut into atoms.
pub use Rattle.graph_atoms.specs.atom_cut.Cuts.{IsGrowthCut, atom_numbers}
pub use Rattle.graph_atoms.specs.atom_gather.Gathered.{IsAssignment}
use Rattle.graph_atoms.specs.declared.atom_gather.cuts.Cut.{Cut}
use Rattle.graph_atoms.specs.declared.atom_gather.cuts.Cut.TheVariants.{Grown, Told}
use Rattle.std.specs.Prelude.{◌≡◌, ◌≤◌, ℕ, List}
use Rattle.graph_core.specs.DataGraph.{DataGraph}

-- into how many
abbrev pub atoms_of : Cut → ℕ
atoms_of (Grown atoms) = atoms
atoms_of (Told atoms of) = atoms

-- each vertex of the graph is in the atom of this list: by the graph's growth, or as it was told
abbrev pub IsCutBy : DataGraph → Cut → List ℕ → Type 0
IsCutBy g (Grown atoms) of = IsGrowthCut g atoms of
IsCutBy g (Told atoms told) of = of ≡ atom_numbers told.items

-- the graph can be cut so: into one atom or more, and where it was told each vertex is in one of them
abbrev pub CanBeCut : DataGraph → Cut → Type 0
CanBeCut g (Grown atoms) = 1 ≤ atoms
CanBeCut g (Told atoms told) = IsAssignment g atoms (atom_numbers told.items)
