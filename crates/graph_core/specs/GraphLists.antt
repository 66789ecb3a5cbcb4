-- The graph that a list of identifiers and a list of edges make, and the first fault of lists that make none.
use Rattle.std.specs.Prelude.{◌≡◌, ℕ, Bool, if◌then◌else◌, ◌&&◌, ◌||◌, ◌==◌, nat_lt, List, [], ◌∷◌, ◌++◌, length, map, slice_index, Option, Some, None}
use Rattle.std.specs.List.{list_any}
use Rattle.std.specs.Option.{option_or}
use Rattle.std.specs.List.Sorted.{IsPermutation}
use Rattle.graph_core.specs.declared.graph_lists.EdgeIn.{EdgeIn}
use Rattle.graph_core.specs.declared.graph_lists.GraphFault.{GraphFault}
use Rattle.graph_core.specs.declared.graph_lists.GraphFault.TheVariants.{DoubleVertex, UnknownVertex, SelfLoop, DoubleEdge, NoMemory}
use Rattle.graph_core.specs.DataGraph.{DataEdge, DataGraph, IsDataGraph}

-- an edge as it is kept: where edges have no direction, the lower identifier comes first
abbrev pub lower_first : Bool → EdgeIn → EdgeIn
lower_first directed e = if directed || nat_lt e.from e.to then e else record { from = e.to; to = e.from; weight = e.weight }

-- an edge of the graph, with the identifiers of its ends
abbrev pub with_ids : List ℕ → DataEdge → EdgeIn
with_ids ids e = record { from = slice_index ids e.from; to = slice_index ids e.to; weight = e.weight }

-- the graph has just these identifiers and just these edges
pub record IsGraphOf (ids : List ℕ) (edges : List EdgeIn) (directed : Bool) (g : DataGraph) : Type 0 where
  pub graph : IsDataGraph g
  pub same_ids : IsPermutation ids g.ids
  pub same_edges : IsPermutation (map (lower_first directed) edges) (map (with_ids g.ids) g.edges)
  pub direction : g.directed ≡ directed

-- the first fault, where the fault of an item depends on those before it
abbrev pub first_fault : {X : Type 0} → (List X → X → Option GraphFault) → List X → List X → Option GraphFault
first_fault fault before [] = None
first_fault fault before (x ∷ xs) = option_or (fault before x) (first_fault fault (before ++ x ∷ []) xs)

-- an identifier that stands before it too is a double
abbrev pub vertex_fault : List ℕ → ℕ → Option GraphFault
vertex_fault before id = if list_any (λ other. other == id) before then Some (DoubleVertex (length before)) else None

-- what each fault of an edge is called
pub record EdgeFaults (Y : Type 0) : Type 0 where
  pub unknown : Y
  pub self_loop : Y
  pub double : Y

-- an end that is no vertex, and else two equal ends
abbrev pub fault_of_ends : {Y : Type 0} → EdgeFaults Y → List ℕ → EdgeIn → Option Y
fault_of_ends called ids e =
    if list_any (λ id. id == e.from) ids && list_any (λ id. id == e.to) ids
    then (if e.from == e.to then Some called.self_loop else None)
    else Some called.unknown

-- two edges are the same where they are kept with the same ends
abbrev pub same_ends : Bool → EdgeIn → EdgeIn → Bool
same_ends directed e f = (lower_first directed e).from == (lower_first directed f).from && (lower_first directed e).to == (lower_first directed f).to

-- a fault of its ends, and else an edge before it that is the same
abbrev pub fault_of_edge : {Y : Type 0} → EdgeFaults Y → List ℕ → Bool → List EdgeIn → EdgeIn → Option Y
fault_of_edge called ids directed before e =
    option_or (fault_of_ends called ids e) (if list_any (same_ends directed e) before then Some called.double else None)

-- in a list of edges faults are called by the place
abbrev pub faults_at : ℕ → EdgeFaults GraphFault
faults_at place = record { unknown = UnknownVertex place; self_loop = SelfLoop place; double = DoubleEdge place }

abbrev pub ends_fault : List ℕ → EdgeIn → ℕ → Option GraphFault
ends_fault ids e place = fault_of_ends (faults_at place) ids e

abbrev pub edge_fault : List ℕ → Bool → List EdgeIn → EdgeIn → Option GraphFault
edge_fault ids directed before e = fault_of_edge (faults_at (length before)) ids directed before e

-- the first fault of the identifiers, and else that of the edges
abbrev pub graph_fault : List ℕ → List EdgeIn → Bool → Option GraphFault
graph_fault ids edges directed = option_or (first_fault vertex_fault [] ids) (first_fault (edge_fault ids directed) [] edges)

-- a refusal names the first fault, or want of memory
abbrev pub NamesFirstFault : Option GraphFault → GraphFault → Type 0
NamesFirstFault first NoMemory = Unit {0}
NamesFirstFault first (DoubleVertex place) = first ≡ Some (DoubleVertex place)
NamesFirstFault first (UnknownVertex place) = first ≡ Some (UnknownVertex place)
NamesFirstFault first (SelfLoop place) = first ≡ Some (SelfLoop place)
NamesFirstFault first (DoubleEdge place) = first ≡ Some (DoubleEdge place)
