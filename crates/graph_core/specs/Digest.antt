-- The bytes whose SHA-256 is the digest of a graph. Numbers are big-endian.
use Rattle.std.specs.Prelude.{ℕ, if◌then◌else◌, List, [], ◌∷◌, ◌++◌, length}
use Rattle.std.specs.Int.{to_be_bytes, w32, w64}
use Rattle.std.specs.List.{flat_map}
use Rattle.graph_core.specs.DataGraph.{DataEdge, DataGraph, size}

-- the vertices and the weight of an edge
abbrev pub edge_bytes : DataEdge → List ℕ
edge_bytes e = to_be_bytes w32 e.from ++ to_be_bytes w32 e.to ++ to_be_bytes w32 e.weight

-- 1 where edges have a direction and else 0, how many vertices and edges there are, the identifiers, and the edges
abbrev pub digest_bytes : DataGraph → List ℕ
digest_bytes g =
    ((if g.directed then 1 else 0) ∷ []) ++ to_be_bytes w32 (size g) ++ to_be_bytes w32 (length g.edges) ++ flat_map (to_be_bytes w64) g.ids ++ flat_map edge_bytes g.edges
