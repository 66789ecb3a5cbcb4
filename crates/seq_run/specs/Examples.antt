-- Small graphs and orders, whose replay is worked out.
use Rattle.std.specs.Prelude.{ℕ, false, List, [], ◌∷◌, ◌++◌, map, length}
use Rattle.std.specs.List.{range_with_len}
use Rattle.gl_base.specs.declared.entries.Entry.{Entry}
use Rattle.gl_base.specs.declared.entries.Entry.TheVariants.{Restart}
use Rattle.graph_core.specs.DataGraph.{DataEdge, DataGraph, size}
use Rattle.seq_run.specs.States.{GraphState}
use Rattle.seq_run.specs.Runs.{updates_in_turn}

-- an edge of this weight
abbrev pub edge : ℕ → ℕ → ℕ → DataEdge
edge from to weight = record { from = from; to = to; weight = weight }

-- the numbers of all vertices, and of all edges
abbrev pub vertex_numbers : DataGraph → GraphState → List ℕ
vertex_numbers g s = map s.vertex (range_with_len 0 (size g))

abbrev pub edge_numbers : DataGraph → GraphState → List ℕ
edge_numbers g s = map s.edge (range_with_len 0 (length g.edges))

-- vertices 1 to 4 with the edges 1 2 and 2 3
abbrev pub line_and_point : DataGraph
line_and_point = record { ids = 1 ∷ 2 ∷ 3 ∷ 4 ∷ []; edges = edge 0 1 1 ∷ edge 1 2 1 ∷ []; directed = false }

abbrev pub along_the_line : List Entry
along_the_line = updates_in_turn 0 (0 ∷ 1 ∷ 2 ∷ 3 ∷ 0 ∷ 1 ∷ [])

abbrev pub one_after_another : List Entry
one_after_another = updates_in_turn 0 (0 ∷ 1 ∷ 2 ∷ [])

-- with a recovery after the second update
abbrev pub ends_and_again : List Entry
ends_and_again = updates_in_turn 0 (0 ∷ 2 ∷ []) ++ Restart 2 ∷ updates_in_turn 2 (0 ∷ 1 ∷ 2 ∷ 0 ∷ 1 ∷ [])

-- vertices 1 to 4 with the edges 1 2 of weight 0, 1 3 of 5, 1 4 of 6, 2 4 of 5 and 3 4 of 0
abbrev pub two_ways : DataGraph
two_ways =
    record {
      ids = 1 ∷ 2 ∷ 3 ∷ 4 ∷ [];
      edges = edge 0 1 0 ∷ edge 0 2 5 ∷ edge 0 3 6 ∷ edge 1 3 5 ∷ edge 2 3 0 ∷ [];
      directed = false;
    }

abbrev pub far_end_first : List Entry
far_end_first = updates_in_turn 0 (3 ∷ 1 ∷ 2 ∷ 3 ∷ 0 ∷ 1 ∷ 2 ∷ [])

-- vertices 1 to 4 with the edges 1 2, 1 3 and 2 3
abbrev pub triangle_and_point : DataGraph
triangle_and_point = record { ids = 1 ∷ 2 ∷ 3 ∷ 4 ∷ []; edges = edge 0 1 1 ∷ edge 0 2 1 ∷ edge 1 2 1 ∷ []; directed = false }

abbrev pub each_once : List Entry
each_once = updates_in_turn 0 (1 ∷ 0 ∷ 3 ∷ 2 ∷ [])

-- vertices 1 to 6 with the edges 1 2, 1 3, 2 3, 3 4 and 4 5
abbrev pub triangle_and_tail : DataGraph
triangle_and_tail =
    record {
      ids = 1 ∷ 2 ∷ 3 ∷ 4 ∷ 5 ∷ 6 ∷ [];
      edges = edge 0 1 1 ∷ edge 0 2 1 ∷ edge 1 2 1 ∷ edge 2 3 1 ∷ edge 3 4 1 ∷ [];
      directed = false;
    }

abbrev pub down_to_the_cores : List Entry
down_to_the_cores = updates_in_turn 0 (0 ∷ 1 ∷ 2 ∷ 3 ∷ 4 ∷ 5 ∷ 3 ∷ 0 ∷ 1 ∷ 2 ∷ 4 ∷ [])
