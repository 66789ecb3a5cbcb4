-- Which keys stand in earlier rows.
use Rattle.std.specs.Prelude.{◌≡◌, ℕ, ◌+◌, ◌<◌, Bool, false, nat_eq, List, length, slice_index_or}
use Rattle.std.specs.List.{list_any}

-- a mark is set exactly for each of these keys
abbrev pub AreTaken : List Bool → List ℕ → Type 0
AreTaken marks taken = (key : ℕ) → key < length marks → slice_index_or marks key false ≡ list_any (nat_eq key) taken

-- these keys are marked, and so many are left
pub record AreLeftOf (marks : List Bool) (left : ℕ) (taken : List ℕ) : Type 0 where
  pub marked : AreTaken marks taken
  pub count : left + length taken ≡ length marks
