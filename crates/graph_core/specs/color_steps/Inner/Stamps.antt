-- The search for a free colour.
use Rattle.std.specs.Prelude.{◌≡◌, ◌≢◌, ℕ, ◌<◌, ◌≤◌, Bool, if◌then◌else◌, ◌&&◌, ◌==◌, List, length, nat_lt, slice_index_or}
use Rattle.std.specs.List.{list_any}
use Rattle.graph_core.specs.declared.halves.Half.{Half}

-- u has a colour, and it is k
abbrev pub has_colour : List ℕ → ℕ → ℕ → Bool
has_colour colours k u = nat_lt u (length colours) && slice_index_or colours u 0 == k

-- one of these half-edges leads to a vertex that has the colour k
abbrev pub is_taken : List ℕ → List Half → ℕ → Bool
is_taken colours halves k = list_any (λ h. has_colour colours k h.other.0) halves

-- the place of each taken colour got the stamp, and the others are as they were
abbrev pub AreStamped : ℕ → List ℕ → List Half → List ℕ → List ℕ → Type 0
AreStamped stamp colours halves old new = (k : ℕ) → k < length old → slice_index_or new k 0 ≡ (if is_taken colours halves k then stamp else slice_index_or old k 0)

-- the first of the places 1, 2, .. where the stamp is another
pub record IsFirstWithout (stamps : List ℕ) (stamp place : ℕ) : Type 0 where
  pub from_one : 1 ≤ place
  pub inside : place < length stamps
  pub before : (k : ℕ) → 1 ≤ k → k < place → slice_index_or stamps k 0 ≡ stamp
  pub other : slice_index_or stamps place 0 ≢ stamp
