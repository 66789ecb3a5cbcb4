-- What has a number: the vertices and the edges of a graph.
use Rattle.std.specs.Prelude.{Bool, length, ℕ, ◌<◌, ◌==◌, ◌||◌}
use Rattle.graph_core.specs.DataGraph.{DataGraph, size}
use Rattle.seq_run.specs.States.{GraphState}
use Rattle.cluster_laws.specs.cluster_core.Copies.{from_owner, to_owner}
use Rattle.cluster_laws.specs.cluster_core.Effects.{is_end}
use Rattle.cluster_laws.specs.cluster_core.Settings.{Setting, is_in_scope, nth_edge}

pub data Item : Type 0 where
  AVertex : (vertex : ℕ) → Item
  AnEdge : (edge : ℕ) → Item

-- it is one of this graph
abbrev pub IsItem : DataGraph → Item → Type 0
IsItem g (AVertex x) = x < size g
IsItem g (AnEdge e) = e < length g.edges

-- its number in a state
abbrev pub number_in : GraphState → Item → ℕ
number_in s (AVertex x) = s.vertex x
number_in s (AnEdge e) = s.edge e

-- machine a keeps its number: a vertex's owner does, and so do the owners of an edge's two ends
abbrev pub keeps : Setting → ℕ → Item → Bool
keeps st a (AVertex x) = st.owner x == a
keeps st a (AnEdge e) = from_owner st e == a || to_owner st e == a

-- an update of v writes it: v, its neighbours, and the edges at v
abbrev pub is_written : Setting → ℕ → Item → Bool
is_written st v (AVertex x) = is_in_scope st v x
is_written st v (AnEdge e) = is_end (nth_edge st e) v
