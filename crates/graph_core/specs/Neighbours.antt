-- The neighbours of a vertex.
use Rattle.std.specs.Prelude.{ℕ, List}
use Rattle.std.specs.List.{filter, list_any, range_with_len}
use Rattle.graph_core.specs.DataGraph.{DataGraph, size}
use Rattle.graph_core.specs.Colourings.{joins}

-- the vertices that an edge joins with v, ascending
abbrev pub neighbours_of : DataGraph → ℕ → List ℕ
neighbours_of g v = filter (λ u. list_any (joins v u) g.edges) (range_with_len 0 (size g))
