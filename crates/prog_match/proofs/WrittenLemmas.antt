-- Numbers along edges are written one edge after another.
use Rattle.std.proofs.Common.{◌≡◌, ℕ, ◌+◌, ◌<◌, ◌≤◌, List, length, slice_index}
use Rattle.full_scope.specs.declared.links.FullLink.{FullLink}
use Rattle.full_scope.specs.FullLinks.{neighbour_in}
use Rattle.full_scope.specs.FullUpdates.{Neighbour}

-- along the first k links the new numbers stand, and along each other one the old ones
pub record AreWrittenBelow (k : ℕ) (near mark : Neighbour → ℕ) (links : List FullLink) (old new : List ℕ) : Type 0 where
  pub as_many : length new ≡ length old
  pub nears : (i : ℕ) → i < k → slice_index new i ≡ near (neighbour_in links old i)
  pub marks : (i : ℕ) → i < k → slice_index new (length links + i) ≡ mark (neighbour_in links old i)
  pub old_nears : (i : ℕ) → k ≤ i → i < length links → slice_index new i ≡ slice_index old i
  pub old_marks : (i : ℕ) → k ≤ i → i < length links → slice_index new (length links + i) ≡ slice_index old (length links + i)
