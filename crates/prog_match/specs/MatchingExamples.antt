-- Small graphs and orders, whose matchings are worked out.
use Rattle.std.specs.Prelude.{false, List, [], ◌∷◌, ◌++◌}
use Rattle.gl_base.specs.declared.entries.Entry.{Entry}
use Rattle.gl_base.specs.declared.entries.Entry.TheVariants.{Restart}
use Rattle.graph_core.specs.DataGraph.{DataGraph}
use Rattle.seq_run.specs.Examples.{edge}
use Rattle.seq_run.specs.Runs.{updates_in_turn}

-- vertices 1 to 4 with the edges 1 2, 2 3 and 3 4
abbrev pub four_in_line : DataGraph
four_in_line = record { ids = 1 ∷ 2 ∷ 3 ∷ 4 ∷ []; edges = edge 0 1 1 ∷ edge 1 2 1 ∷ edge 2 3 1 ∷ []; directed = false }

-- vertex 3 first, and then the others
abbrev pub third_first : List Entry
third_first = updates_in_turn 0 (2 ∷ 0 ∷ 1 ∷ 3 ∷ [])

-- all of them in turn
abbrev pub first_to_fourth : List Entry
first_to_fourth = updates_in_turn 0 (0 ∷ 1 ∷ 2 ∷ 3 ∷ [])

-- with a recovery after the update of vertex 3
abbrev pub third_and_again : List Entry
third_and_again = updates_in_turn 0 (2 ∷ []) ++ Restart 1 ∷ updates_in_turn 1 (0 ∷ 1 ∷ 2 ∷ 3 ∷ [])

-- vertices 1 to 5 with the edges 1 2 and 3 4
abbrev pub two_edges_and_point : DataGraph
two_edges_and_point = record { ids = 1 ∷ 2 ∷ 3 ∷ 4 ∷ 5 ∷ []; edges = edge 0 1 1 ∷ edge 2 3 1 ∷ []; directed = false }

abbrev pub first_to_fifth : List Entry
first_to_fifth = updates_in_turn 0 (0 ∷ 1 ∷ 2 ∷ 3 ∷ 4 ∷ [])
