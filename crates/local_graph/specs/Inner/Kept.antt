-- How a machine's lists are kept.
use Rattle.std.specs.Prelude.{◌≡◌, ℕ, ◌<◌, ◌≤◌, Some, None, is_some, true, [], length, slice_index_or}
use Rattle.std.specs.List.{All}
use Rattle.local_graph.specs.Locals.{LocalView, place_of_vertex}
use Rattle.local_graph.specs.Played.{IsSideTo}

-- Each place is one of the lists and has one vertex, rows have one link for each side, out or in, and each side has an edge, and the place of
-- its other end.
pub record IsWellKept (l : LocalView) : Type 0 where
  pub inside : (x k : ℕ) → place_of_vertex l.places x ≡ Some k → k < length l.sides
  pub apart : (x y k : ℕ) → place_of_vertex l.places x ≡ Some k → place_of_vertex l.places y ≡ Some k → x ≡ y
  pub own : length l.kept ≤ length l.sides
  pub part : length l.part ≡ length l.sides
  pub ids : length l.ids ≡ length l.kept
  pub rows : length l.rows ≡ length l.kept
  pub parts : length l.parts ≡ length l.kept
  pub links : length l.links ≡ length l.kept
  pub same : (k : ℕ) → is_some (slice_index_or l.rows k None) ≡ true → slice_index_or l.rows k None ≡ Some (slice_index_or l.links k [])
  pub fit : (k : ℕ) → k < length l.links → length (slice_index_or l.links k []) ≡ length (slice_index_or l.sides k [])
  pub edges : (k : ℕ) → All (λ s. s.edge.0 < length l.numbers) (slice_index_or l.sides k [])
  pub leads : (k : ℕ) → All (IsSideTo l.places) (slice_index_or l.sides k [])
  pub few : length l.sides < 4294967295
