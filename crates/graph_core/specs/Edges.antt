-- An edge as it is kept, and the identifiers of a graph in order.
use Rattle.std.specs.Prelude.{◌≡◌, ℕ, List, [], None, Result, Ok, Err}
use Rattle.std.specs.declared.vec.Vec.{Vec}
use Rattle.std.specs.declared.alloc.Global.{Global}
use Rattle.std.specs.List.Sorted.{IsPermutation}
use Rattle.graph_core.specs.declared.graph_lists.GraphFault.{GraphFault}
use Rattle.graph_core.specs.declared.edges.Edge.{Edge}
use Rattle.gl_base.specs.Lists.{Ascends}
use Rattle.graph_core.specs.DataGraph.{DataEdge}
use Rattle.graph_core.specs.GraphLists.{vertex_fault, first_fault, NamesFirstFault}

-- the edge as the definitions see it
abbrev pub data_edge : Edge → DataEdge
data_edge e = record { from = e.from.0; to = e.to.0; weight = e.weight }

-- the identifiers in order and no two alike, or the first double
abbrev pub SortsIds : List ℕ → Result (Vec ℕ Global) GraphFault → Type 0
SortsIds ids (Ok sorted) = IsPermutation ids sorted.items × Ascends sorted.items × (first_fault vertex_fault [] ids ≡ None)
SortsIds ids (Err fault) = NamesFirstFault (first_fault vertex_fault [] ids) fault
