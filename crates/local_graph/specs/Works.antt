-- The row of a work.
use Rattle.std.specs.Prelude.{◌≡◌, ℕ, ◌<◌, List, length, slice_index_or}
use Rattle.update_api.specs.declared.links.Link.{Link}

-- so many links, each at its own place
pub record IsRow (links : List Link) (count : ℕ) : Type 0 where
  pub many : length links ≡ count
  pub near : (i : ℕ) (d : Link) → i < length links → (slice_index_or links i d).near ≡ i
  pub edge : (i : ℕ) (d : Link) → i < length links → (slice_index_or links i d).edge ≡ i
