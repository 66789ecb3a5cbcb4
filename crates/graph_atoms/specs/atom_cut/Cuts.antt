-- The atom of each vertex, where a graph is cut by its growth.
use Rattle.std.specs.Prelude.{◌≡◌, ℕ, ◌*◌, ◌/◌, ◌<◌, List, length, map, slice_index}
use Rattle.gl_base.specs.declared.numbers.AtomNo.{AtomNo}
use Rattle.graph_core.specs.DataGraph.{DataGraph, size}
use Rattle.graph_core.specs.Growth.{growth_order}

-- the numbers of atoms
abbrev pub atom_numbers : List AtomNo → List ℕ
atom_numbers atoms = map (λ a. a.0) atoms

-- the vertex at each place of the order of growth, from the least vertex on, is in the atom that the place falls to
pub record IsGrowthCut (g : DataGraph) (atoms : ℕ) (of : List ℕ) : Type 0 where
  pub each : length of ≡ size g
  pub place : (p : ℕ) → p < size g → slice_index of (slice_index (growth_order g 0) p) ≡ p * atoms / size g
