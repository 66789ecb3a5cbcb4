-- The place of each of some vertices in their list, by the vertex's number.
use Rattle.std.specs.Prelude.{◌≡◌, ℕ, ◌<◌, true, Option, Some, None, is_some, List, length, map, nat_lt, slice_index_or, if◌then◌else◌}
use Rattle.gl_base.specs.declared.numbers.Vertex.{Vertex}

-- the place of vertex x, where it has one
abbrev pub place_of_vertex : List (Option ℕ) → ℕ → Option ℕ
place_of_vertex places x = slice_index_or places x None

-- each of the vertices has a place, and at each place stands the vertex that has it
pub record AreTheirPlaces (places : List (Option ℕ)) (vertices : List Vertex) : Type 0 where
  pub placed : (k : ℕ) (d : Vertex) → k < length vertices → is_some (place_of_vertex places (slice_index_or vertices k d).0) ≡ true
  pub inside : (x k : ℕ) → place_of_vertex places x ≡ Some k → k < length vertices
  pub stands : (x k : ℕ) (d : Vertex) → place_of_vertex places x ≡ Some k → (slice_index_or vertices k d).0 ≡ x

-- a number below the bound is a place
abbrev pub place_below : ℕ → ℕ → Option ℕ
place_below bound number = if nat_lt number bound then Some number else None

abbrev pub places_below : ℕ → List ℕ → List (Option ℕ)
places_below bound numbers = map (place_below bound) numbers
