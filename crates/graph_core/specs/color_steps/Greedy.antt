-- The greedy colouring: each vertex in turn gets the least colour that no neighbour before it has.
use Rattle.std.specs.Prelude.{◌≡◌, ◌≢◌, ℕ, ◌<◌, ◌≤◌, Contains}
use Rattle.graph_core.specs.DataGraph.{DataGraph, size}
use Rattle.graph_core.specs.Neighbours.{neighbours_of}

-- u is a neighbour of v with a lower number
abbrev pub IsLowerNeighbour : DataGraph → ℕ → ℕ → Type 0
IsLowerNeighbour g v u = (u < v) × Contains (neighbours_of g v) u

-- v has a colour from 1 on that no lower neighbour has, and each lower colour some lower neighbour has
pub record HasLeastFree (g : DataGraph) (colour : ℕ → ℕ) (v : ℕ) : Type 0 where
  pub from_one : 1 ≤ colour v
  pub free : (u : ℕ) → IsLowerNeighbour g v u → colour u ≢ colour v
  pub least : (k : ℕ) → 1 ≤ k → k < colour v → (u : ℕ) × IsLowerNeighbour g v u × (colour u ≡ k)

-- each vertex has the least colour from 1 on that no lower neighbour has
abbrev pub IsGreedy : DataGraph → (ℕ → ℕ) → Type 0
IsGreedy g colour = (v : ℕ) → v < size g → HasLeastFree g colour v
