-- The row of a vertex that a test takes out.
use Rattle.std.specs.Prelude.{◌≡◌, ℕ, List, Some, length}
use Rattle.update_api.specs.declared.links.Link.{Link}
use Rattle.local_graph.specs.Locals.{LocalView, links_at, sides_at}
use Rattle.local_graph.specs.Works.{IsRow}

-- the row of v is in, with a link for each of its sides
pub record HasRow (l : LocalView) (v : ℕ) : Type 0 where
  pub links : List Link
  pub there : links_at l v ≡ Some links
  pub row : IsRow links (length (sides_at l v))
