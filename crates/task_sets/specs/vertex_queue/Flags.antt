-- A flag for each vertex.
use Rattle.std.specs.Prelude.{ℕ, Bool, false, List, slice_index_or}

-- whether the vertex has its flag; one that is none of the list has not
abbrev pub is_flagged : List Bool → ℕ → Bool
is_flagged flags u = slice_index_or flags u false
