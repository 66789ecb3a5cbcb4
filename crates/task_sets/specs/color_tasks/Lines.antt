-- Vertices in line, by colour.
use Rattle.std.specs.Prelude.{◌≡◌, ℕ, Bool, Some, List, slice_get}
use Rattle.task_sets.specs.vertex_queue.Flags.{is_flagged}

-- The colour of each vertex, and whether it stands in the line of its colour.
pub record LinesView : Type 0 where
  pub colours : List ℕ
  pub waits : List Bool

-- there is such a vertex, and it has this colour
abbrev pub HasColour : LinesView → ℕ → ℕ → Type 0
HasColour l u colour = slice_get l.colours u ≡ Some colour

-- it stands in line
abbrev pub is_in_line : LinesView → ℕ → Bool
is_in_line l u = is_flagged l.waits u
