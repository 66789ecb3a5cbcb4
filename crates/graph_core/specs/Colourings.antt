-- Proper colourings within the degree bound.
use Rattle.std.specs.Prelude.{◌≢◌, ℕ, zero, suc, ◌+◌, ◌<◌, ◌≤◌, Bool, if◌then◌else◌, ◌&&◌, ◌||◌, ◌==◌, All}
use Rattle.std.specs.List.{list_any}
use Rattle.graph_core.specs.DataGraph.{DataEdge, DataGraph, size}

-- the edge joins the two vertices, whichever way
abbrev pub joins : ℕ → ℕ → DataEdge → Bool
joins a b e = (e.from == a && e.to == b) || (e.from == b && e.to == a)

-- how many vertices below n are neighbours of v
abbrev pub degree_below : DataGraph → ℕ → ℕ → ℕ
degree_below g v zero = 0
degree_below g v (suc n) = (if list_any (joins v n) g.edges then 1 else 0) + degree_below g v n

-- how many neighbours v has
abbrev pub degree_of : DataGraph → ℕ → ℕ
degree_of g v = degree_below g v (size g)

-- the two ends of each edge have different numbers, which are from 1 to one more than the degree
pub record IsProperColouring (g : DataGraph) (colour : ℕ → ℕ) : Type 0 where
  pub apart : All (λ e. colour e.from ≢ colour e.to) g.edges
  pub low : (v : ℕ) → v < size g → 1 ≤ colour v
  pub high : (v : ℕ) → v < size g → colour v ≤ degree_of g v + 1
