-- How vertices get their places, one after another.
use Rattle.std.specs.Prelude.{◌≡◌, ℕ, ◌<◌, ◌≤◌, List, length, slice_index, slice_index_or}
use Rattle.gl_base.specs.declared.numbers.Vertex.{Vertex}

-- the first i of these vertices have their places, and each other vertex the number that is none
pub record HavePlaces (vertices : List Vertex) (count i : ℕ) (numbers : List ℕ) : Type 0 where
  pub many : length numbers ≡ count
  pub stands : (x : ℕ) (d : Vertex) → x < count → slice_index numbers x < i → (slice_index_or vertices (slice_index numbers x) d).0 ≡ x
  pub placed : (k : ℕ) (d : Vertex) → k < i → slice_index numbers (slice_index_or vertices k d).0 < i
  pub none : (x : ℕ) → x < count → i ≤ slice_index numbers x → slice_index numbers x ≡ 4294967295
