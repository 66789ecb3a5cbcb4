-- What an update makes on a copy of the numbers that it is lent.
use Rattle.std.specs.Prelude.{◌≡◌, ℕ, ◌+◌, ◌<◌, List, length, slice_index, slice_index_or}
use Rattle.graph_core.specs.DataGraph.{DataGraph}
use Rattle.graph_core.specs.Halves.{DataHalf, halves_of}
use Rattle.seq_run.specs.States.{GraphState}

-- The centre has the number of v in this state, and the row those along the edges at v: first of the other ends, and behind them of
-- the edges.
pub record IsMade (g : DataGraph) (after : GraphState) (v centre : ℕ) (row : List ℕ) : Type 0 where
  pub own : centre ≡ after.vertex v
  pub count : length row ≡ length (halves_of g v) + length (halves_of g v)
  pub near : (i : ℕ) (d : DataHalf) → i < length (halves_of g v) → slice_index row i ≡ after.vertex (slice_index_or (halves_of g v) i d).other
  pub edge : (i : ℕ) (d : DataHalf) → i < length (halves_of g v) → slice_index row (length (halves_of g v) + i) ≡ after.edge (slice_index_or (halves_of g v) i d).edge
