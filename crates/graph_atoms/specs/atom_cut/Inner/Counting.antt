-- Edges between atoms, counted in a table.
use Rattle.std.specs.Prelude.{◌≡◌, ℕ, ◌+◌, ◌*◌, ◌<◌, ◌≤◌, min, max, List, length, slice_index}
use Rattle.graph_core.specs.DataGraph.{DataGraph}
use Rattle.graph_atoms.specs.atom_cut.MetaEdges.{edges_between}

-- the place of a pair of atoms in the table, the lower one first
abbrev pub pair_place : ℕ → ℕ → ℕ → ℕ
pair_place atoms a b = min a b * atoms + max a b

-- what the table has for two atoms
abbrev pub count_in : ℕ → List ℕ → ℕ → ℕ → ℕ
count_in atoms counts a b = slice_index counts (a * atoms + b)

-- the first n edges are counted
pub record AreEdgeCounts (g : DataGraph) (of : List ℕ) (atoms n : ℕ) (counts : List ℕ) : Type 0 where
  pub room : length counts ≡ atoms * atoms
  pub each : (a b : ℕ) → a < b → b < atoms → count_in atoms counts a b ≡ edges_between g of n a b
  pub few : (i : ℕ) → slice_index counts i ≤ n
