-- The data that a machine keeps of vertices of other machines.
use Rattle.std.specs.Prelude.{◌≡◌, ℕ, ◌<◌, Option, Some, None, is_some, List, length, nat_lt, slice_get, if◌then◌else◌}
use Rattle.gl_base.specs.declared.scopes.Datum.{Datum}
use Rattle.gl_base.specs.vertex_places.Placing.{place_of_vertex}

-- The place of each ghost, by the vertex's number, and the datum at each place.
pub record CacheView : Type 0 where
  pub places : List (Option ℕ)
  pub kept : List Datum

abbrev pub datum_there : List Datum → Option ℕ → Option Datum
datum_there kept None = None
datum_there kept (Some place) = slice_get kept place

-- the datum that is kept of x, where x is a ghost
abbrev pub ghost_datum : CacheView → ℕ → Option Datum
ghost_datum c x = datum_there c.kept (place_of_vertex c.places x)

-- the datum that comes is taken where its version is greater
abbrev pub newest : Datum → Datum → Datum
newest kept comes = if nat_lt kept.version comes.version then comes else kept

-- each ghost has a place of its own
pub record IsCache (places : List (Option ℕ)) (many : ℕ) : Type 0 where
  pub inside : (x k : ℕ) → place_of_vertex places x ≡ Some k → k < many
  pub apart : (x y k : ℕ) → place_of_vertex places x ≡ Some k → place_of_vertex places y ≡ Some k → x ≡ y
