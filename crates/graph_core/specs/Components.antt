-- Weakly connected components, as in LDBC Graphalytics. The label is the least identifier in the component.
use Rattle.std.specs.Prelude.{◌≡◌, ℕ, ◌<◌, ◌≤◌, false, List, slice_index}
use Rattle.graph_core.specs.DataGraph.{DataEdge, DataGraph, size}
use Rattle.graph_core.specs.Walks.{IsWalk}

-- a walk that ignores direction goes from a to b
abbrev pub Joined : DataGraph → ℕ → ℕ → Type 0
Joined g a b = (path : List DataEdge) × IsWalk g.edges false a b path

-- a vertex that is joined to v has this identifier, and none that is joined to v has a lower one
pub record IsComponentLabel (g : DataGraph) (v id : ℕ) : Type 0 where
  pub joined : (u : ℕ) × (u < size g) × Joined g u v × (slice_index g.ids u ≡ id)
  pub least : (u : ℕ) → u < size g → Joined g u v → id ≤ slice_index g.ids u
