-- Links that are written.
pub use Rattle.cluster_step.specs.clusters.Links.{LinkView, MessageView, link_between}
use Rattle.std.specs.Prelude.{List, [], length, slice_index_or, slice_set, ℕ, ◌<◌, ◌∷◌, ◌≡◌}

-- what is left without the first
abbrev pub behind_first : List MessageView → List MessageView
behind_first [] = []
behind_first (m ∷ behind) = behind

-- the link from p to q is this one
abbrev pub with_link_between : List (List LinkView) → ℕ → ℕ → LinkView → List (List LinkView)
with_link_between links p q link = slice_set links p (slice_set (slice_index_or links p []) q link)

-- there is a link from p to q
pub record HasLinkBetween (links : List (List LinkView)) (p q : ℕ) : Type 0 where
  pub from : p < length links
  pub to : q < length (slice_index_or links p [])

-- there is a link from each machine to each one
pub record HaveLinks (links : List (List LinkView)) (n : ℕ) : Type 0 where
  pub rows : length links ≡ n
  pub columns : (p : ℕ) → p < n → length (slice_index_or links p []) ≡ n
