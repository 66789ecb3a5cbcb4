-- Atoms that are weighed, vertex by vertex and edge by edge.
use Rattle.std.specs.Prelude.{◌≡◌, ℕ, ◌+◌, ◌<◌, ◌≤◌, List, length, count_by, slice_index}
use Rattle.graph_core.specs.DataGraph.{DataGraph}
use Rattle.graph_atoms.specs.atom_cut.Atoms.{edge_lines, is_in, touches, vertex_lines}

-- the first n vertices and the first m edges are counted for each atom
pub record AreWeights (g : DataGraph) (of : List ℕ) (n m : ℕ) (weights : List ℕ) : Type 0 where
  pub each : (a : ℕ) → a < length weights → slice_index weights a ≡ count_by (λ v. is_in of a v.vertex.0) (vertex_lines g n) + count_by (touches of a) (edge_lines g m)
  pub few : (a : ℕ) → slice_index weights a ≤ n + m
