-- How the edges of a list get their vertex numbers and their order.
use Rattle.std.specs.Prelude.{◌≡◌, ℕ, ◌+◌, ◌*◌, ◌^◌, ◌<◌, ◌≤◌, Bool, List, [], length, map, slice_index_or, AllPairs, All, Option, Some, None, Result, Ok, Err}
use Rattle.std.specs.declared.vec.Vec.{Vec}
use Rattle.std.specs.declared.alloc.Global.{Global}
use Rattle.std.specs.List.Sorted.{IsPermutation}
use Rattle.graph_core.specs.declared.graph_lists.EdgeIn.{EdgeIn}
use Rattle.graph_core.specs.declared.graph_lists.GraphFault.{GraphFault}
use Rattle.graph_core.specs.declared.graph_lists.GraphFault.TheVariants.{DoubleVertex, DoubleEdge, NoMemory as NoMemoryForGraph}
use Rattle.gl_base.specs.declared.memory.OrNoMemory.{OrNoMemory}
use Rattle.gl_base.specs.declared.memory.OrNoMemory.TheVariants.{Fault, NoMemory}
use Rattle.graph_core.specs.declared.sorting.DoubleAt.{DoubleAt}
use Rattle.graph_core.specs.declared.edges.Edge.{Edge}
use Rattle.graph_core.specs.DataGraph.{DataEdge, IsEdge, IsBefore}
use Rattle.graph_core.specs.GraphLists.{lower_first, with_ids, ends_fault, edge_fault, first_fault, NamesFirstFault}
use Rattle.graph_core.specs.Edges.{data_edge}

-- edges are sorted by `from`, and then by `to`
abbrev pub ends_key : Edge → ℕ
ends_key e = e.from.0 * 2 ^ 32 + e.to.0

-- the edge is the listed one, between the vertices of these identifiers
pub record IsNumbered (ids : List ℕ) (directed : Bool) (listed : EdgeIn) (e : Edge) : Type 0 where
  pub edge : IsEdge (length ids) directed (data_edge e)
  pub same : with_ids ids (data_edge e) ≡ lower_first directed listed

-- the edge between vertex numbers, or what is wrong with the ends
abbrev pub IsNumber : List ℕ → Bool → EdgeIn → ℕ → Result Edge GraphFault → Type 0
IsNumber ids directed listed place (Ok e) = IsNumbered ids directed listed e × (ends_fault ids listed place ≡ None)
IsNumber ids directed listed place (Err fault) = ends_fault ids listed place ≡ Some fault

-- the first of the listed edges, each with right ends and in its numbers
pub record AreNumbered (ids : List ℕ) (directed : Bool) (listed : List EdgeIn) (edges : List Edge) : Type 0 where
  pub few : length edges ≤ length listed
  pub each : (k : ℕ) (d : EdgeIn) (e : Edge) → k < length edges → IsNumbered ids directed (slice_index_or listed k d) (slice_index_or edges k e)
  pub clean : (k : ℕ) (d : EdgeIn) → k < length edges → ends_fault ids (slice_index_or listed k d) k ≡ None

-- the listed edges are no more than so many, or the next one has this fault
abbrev pub StopsAt : List ℕ → List EdgeIn → ℕ → Option GraphFault → Type 0
StopsAt ids listed n None = length listed ≤ n
StopsAt ids listed n (Some fault) = (n < length listed) × ((d : EdgeIn) → ends_fault ids (slice_index_or listed n d) n ≡ Some fault)

-- edges that cannot be sorted, as a fault of the graph
abbrev pub edge_double : OrNoMemory DoubleAt → GraphFault
edge_double (Fault double) = DoubleEdge double.0
edge_double NoMemory = NoMemoryForGraph

-- the listed edges as edges of a graph with these identifiers, in order
pub record AreKept (ids : List ℕ) (directed : Bool) (listed : List EdgeIn) (edges : List DataEdge) : Type 0 where
  pub edges_in : All (IsEdge (length ids) directed) edges
  pub ascending : AllPairs IsBefore edges
  pub same : IsPermutation (map (lower_first directed) listed) (map (with_ids ids) edges)
  pub no_fault : first_fault (edge_fault ids directed) [] listed ≡ None

-- the edges in order, or the first fault
abbrev pub SortsEdges : List ℕ → Bool → List EdgeIn → Result (Vec Edge Global) GraphFault → Type 0
SortsEdges ids directed listed (Ok edges) = AreKept ids directed listed (map data_edge edges.items)
SortsEdges ids directed listed (Err fault) = NamesFirstFault (first_fault (edge_fault ids directed) [] listed) fault

-- identifiers that cannot be sorted, as a fault of the graph
abbrev pub vertex_double : OrNoMemory DoubleAt → GraphFault
vertex_double (Fault double) = DoubleVertex double.0
vertex_double NoMemory = NoMemoryForGraph
