-- Half-edges as the definitions see them.
use Rattle.std.specs.Prelude.{◌≡◌, ℕ, ◌<◌, List, [], length, map, slice_index_or}
use Rattle.graph_core.specs.DataGraph.{DataGraph, size}
use Rattle.graph_core.specs.Halves.{DataHalf, halves_of}
use Rattle.graph_core.specs.declared.halves.Half.{Half}

-- the half-edge as the definitions see it
abbrev pub data_half : Half → DataHalf
data_half h = record { edge = h.edge.0; other = h.other.0; weight = h.weight; out = h.out; into = h.into }

-- row v has the half-edges at v
abbrev pub AreHalfRows : DataGraph → List (List Half) → Type 0
AreHalfRows g rows = (length rows ≡ size g) × ((v : ℕ) → v < size g → map data_half (slice_index_or rows v []) ≡ halves_of g v)
