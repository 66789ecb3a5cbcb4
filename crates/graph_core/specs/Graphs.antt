-- A graph as it is kept.
use Rattle.std.specs.Prelude.{◌≡◌, ℕ, Bool, List, map, slice_get, Some}
use Rattle.gl_base.specs.declared.atoms.EdgeLine.{EdgeLine}
use Rattle.graph_core.specs.declared.edges.Edge.{Edge}
use Rattle.graph_core.specs.DataGraph.{DataEdge, DataGraph}
use Rattle.graph_core.specs.Edges.{data_edge}

-- the data graph of these identifiers and edges
abbrev pub data_graph : Bool → List ℕ → List Edge → DataGraph
data_graph directed ids edges = record { ids = ids; edges = map data_edge edges; directed = directed }

-- edge e is there, and goes from a to b
abbrev pub HasEnds : DataGraph → ℕ → ℕ → ℕ → Type 0
HasEnds g e a b = (edge : DataEdge) × (slice_get g.edges e ≡ Some edge) × (edge.from ≡ a) × (edge.to ≡ b)

-- the line is that of edge e: its number, its ends and its weight
abbrev pub IsEdgeLine : DataGraph → ℕ → EdgeLine → Type 0
IsEdgeLine g e line =
    (line.edge.0 ≡ e) × (slice_get g.edges e ≡ Some (record { from = line.from.0; to = line.to.0; weight = line.weight }))
