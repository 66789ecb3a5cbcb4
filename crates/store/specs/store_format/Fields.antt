-- Fields of a store: numbers of some bytes each, the highest byte first.
use Rattle.std.specs.Prelude.{ℕ, ◌&&◌, if◌then◌else◌, nat_le, nat_lt, Option, Some, None}
pub use Rattle.graph_atoms.specs.atom_file.Fields.{field}

-- this place, where the number there is below `least` or isn't below `limit`
abbrev pub bad_outside : ℕ → ℕ → ℕ → ℕ → Option ℕ
bad_outside least limit number place = if nat_le least number && nat_lt number limit then None else Some place
