-- The colours of vertices by their places.
use Rattle.std.specs.Prelude.{◌≡◌, ◌<◌, ℕ, Some, List, length, map, slice_index_or}
use Rattle.gl_base.specs.declared.numbers.Vertex.{Vertex}
use Rattle.placement.specs.places.Places.{LocalView, place_at}

-- the colour of each of these vertices, where the list has those of the graph's vertices
abbrev pub colours_by_place : List ℕ → List Vertex → List ℕ
colours_by_place colours vertices = map (λ v. slice_index_or colours v.0 0) vertices

-- each vertex at one of the first places, which are those of own vertices, is one of so many that have a colour
abbrev pub HaveColours : LocalView → ℕ → Type 0
HaveColours l many = (k v : ℕ) → place_at l v ≡ Some k → k < length l.owned → v < many
