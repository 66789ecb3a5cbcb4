-- How lines are kept: a row of the vertices of each colour, and for each vertex its seat, which is its colour and its rank in that row.
use Rattle.std.specs.Prelude.{◌≡◌, ℕ, ◌<◌, ◌++◌, ◌∷◌, Bool, false, Option, Some, None, List, [], length, map, slice_get, slice_index_or, slice_set}
use Rattle.std.specs.Global.{Vec}
use Rattle.gl_base.specs.declared.numbers.Vertex.{Vertex}
use Rattle.task_sets.specs.vertex_queue.Flags.{is_flagged}
use Rattle.task_sets.specs.color_tasks.Lines.{LinesView}
use Rattle.task_sets.specs.declared.color_tasks.lines.Seat.{Seat}

abbrev pub colour_rows : List (Vec Vertex) → List (List Vertex)
colour_rows rows = map (λ row. row.items) rows

abbrev pub colour_row : List (List Vertex) → ℕ → List Vertex
colour_row rows c = slice_index_or rows c []

-- whether a vertex with this seat stands in line
abbrev pub stands : List (List Bool) → Seat → Bool
stands queues s = is_flagged (slice_index_or queues s.colour []) s.rank

abbrev pub stands_at : List (List Bool) → Option Seat → Bool
stands_at queues None = false
stands_at queues (Some s) = stands queues s

abbrev pub lines_of : List Seat → List (List Bool) → LinesView
lines_of seats queues = record { colours = map (λ s. s.colour) seats; waits = map (stands queues) seats }

-- Who has a seat stands there in the row of its colour, and who stands in a row has the seat.
pub record AreSeats (seats : List Seat) (rows : List (List Vertex)) : Type 0 where
  pub seat : (p : ℕ) (s : Seat) → slice_get seats p ≡ Some s → slice_get (colour_row rows s.colour) s.rank ≡ Some (record { 0 = p })
  pub member : (c r : ℕ) (v : Vertex) → slice_get (colour_row rows c) r ≡ Some v → slice_get seats v.0 ≡ Some (record { colour = c; rank = r })

-- each row has a queue with as many places
pub record AreQueues (rows : List (List Vertex)) (queues : List (List Bool)) : Type 0 where
  pub count : length queues ≡ length rows
  pub long : (c : ℕ) → length (slice_index_or queues c []) ≡ length (colour_row rows c)

-- the vertex is the last in its row, and has that seat
pub record HasJoined (old new : List (List Vertex)) (s : Seat) (v : Vertex) : Type 0 where
  pub rank : s.rank ≡ length (colour_row old s.colour)
  pub within : s.colour < length old
  pub rows : new ≡ slice_set old s.colour (colour_row old s.colour ++ v ∷ [])
