-- Numbers of all vertices and all edges, as lists.
use Rattle.std.specs.Prelude.{List, slice_index, ℕ}
use Rattle.seq_run.specs.States.{GraphState}

-- the state that has these numbers of vertices and edges
abbrev pub state_in : List ℕ → List ℕ → GraphState
state_in numbers edges = record { vertex = slice_index numbers; edge = slice_index edges }
