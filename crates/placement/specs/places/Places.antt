-- The own vertices of a machine have the first places.
pub use Rattle.machine_core.specs.machine_parts.Order.{StandByPlace}
pub use Rattle.machine_core.specs.machine_parts.Parts.{LocalView, place_at}
use Rattle.std.specs.Prelude.{◌≡◌, ℕ, ◌<◌, Some, length, slice_get}
use Rattle.gl_base.specs.declared.numbers.Vertex.{Vertex}

-- a place of so many is that of this vertex
pub record HasPlaceBelow (l : LocalView) (count x : ℕ) : Type 0 where
  pub place : ℕ
  pub is : place_at l x ≡ Some place
  pub below : place < count

-- each own vertex is listed once, and has a place of its own below their number
pub record HaveFirstPlaces (l : LocalView) : Type 0 where
  pub apart : (x y k : ℕ) → place_at l x ≡ Some k → place_at l y ≡ Some k → x ≡ y
  pub below : (i : ℕ) (v : Vertex) → slice_get l.owned i ≡ Some v → HasPlaceBelow l (length l.owned) v.0
  pub once : (i j : ℕ) (v : Vertex) → slice_get l.owned i ≡ Some v → slice_get l.owned j ≡ Some v → i ≡ j
