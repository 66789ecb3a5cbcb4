-- The least number that no neighbour has.
use Rattle.std.specs.Prelude.{◌≡◌, ◌≢◌, ℕ, zero, suc, ◌+◌, ◌<◌, ◌≤◌, if◌then◌else◌, ◌==◌, List, length, All, Any}
use Rattle.std.specs.List.{list_any}
use Rattle.update_api.specs.Near.{Near}

-- k is a number from 1 that no neighbour has, and each lower one some neighbour has
pub record IsLeastFree (nears : List Near) (k : ℕ) : Type 0 where
  pub from_one : 1 ≤ k
  pub free : All (λ near. near.number ≢ k) nears
  pub least : (j : ℕ) → 1 ≤ j → j < k → Any (λ near. near.number ≡ j) nears

-- the first of k, k + 1, .. that no neighbour has, where the search passes over at most so many
abbrev pub first_free : ℕ → ℕ → List Near → ℕ
first_free zero k nears = k
first_free (suc more) k nears = if list_any (λ near. near.number == k) nears then first_free more (k + 1) nears else k

-- the least number from 1 that no neighbour has
abbrev pub least_free : List Near → ℕ
least_free nears = first_free (length nears) 1 nears
