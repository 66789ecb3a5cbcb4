-- Parts of machines, made in turn.
use Rattle.std.specs.Prelude.{ℕ, ◌+◌, ◌<◌, ◌≤◌, List, length, slice_index_or, All}
use Rattle.gl_base.specs.declared.atoms.Lines.{Lines}
use Rattle.gl_base.specs.declared.numbers.MachineNo.{MachineNo}
use Rattle.graph_core.specs.DataGraph.{DataGraph, size}
use Rattle.placement.specs.graphs.Placed.{LocalView}
pub use Rattle.partition.specs.local_parts.Parts.{IsMadeOf, graph_halves}

-- the vertices and ghosts of the lines are the graph's, and no more
pub record AreOfGraph (g : DataGraph) (lines : Lines) : Type 0 where
  pub vertices : All (λ v. v.vertex.0 < size g) lines.vertices.items
  pub ghosts : All (λ v. v.vertex.0 < size g) lines.ghosts.items
  pub few : length lines.vertices.items + length lines.ghosts.items ≤ size g

abbrev pub AreAllOfGraph : DataGraph → List Lines → Type 0
AreAllOfGraph g lines = (a : ℕ) (d : Lines) → a < length lines → AreOfGraph g (slice_index_or lines a d)

-- machine `me` of so many has its part of the graph, made from these lines
abbrev pub IsPartBy : DataGraph → ℕ → MachineNo → Lines → LocalView → Type 0
IsPartBy g machines me lines l = IsMadeOf me lines.vertices.items lines.ghosts.items (graph_halves g) machines (length g.edges) l

-- and so has each machine
abbrev pub AreAllMade : DataGraph → ℕ → List Lines → List LocalView → Type 0
AreAllMade g machines lines locals =
    (a : ℕ) (d : Lines) (l : LocalView) → a < length locals → IsPartBy g machines (record { 0 = a }) (slice_index_or lines a d) (slice_index_or locals a l)
