-- What an update leaves of the numbers of edges.
use Rattle.std.specs.Prelude.{◌≡◌, ◌≢◌, ℕ, List, length, slice_index, All}
use Rattle.update_api.specs.declared.links.Link.{Link}
use Rattle.update_api.specs.Links.{near_at}
use Rattle.update_api.specs.Near.{Near}

-- The edge of each link has the mark of what lay near along it, and each other edge has what it had.
pub record AreMarked (mark : Near → ℕ) (values old : List ℕ) (links : List Link) (new : List ℕ) : Type 0 where
  pub as_many : length new ≡ length old
  pub marks : All (λ link. slice_index new link.edge ≡ mark (near_at values old link)) links
  pub others : (edge : ℕ) → All (λ link. link.edge ≢ edge) links → slice_index new edge ≡ slice_index old edge
