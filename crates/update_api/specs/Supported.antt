-- Numbers that enough neighbours reach.
use Rattle.std.specs.Prelude.{ℕ, zero, suc, ◌+◌, ◌≤◌, if◌then◌else◌, nat_le, List, [], ◌∷◌}
use Rattle.update_api.specs.Near.{Near}

-- how many neighbours have a number of at least k
abbrev pub support : ℕ → List Near → ℕ
support k [] = 0
support k (near ∷ nears) = (if nat_le k near.number then 1 else 0) + support k nears

-- k is at most the own number, at least k neighbours have numbers of at least k, and no greater number is such
pub record IsGreatestSupported (own : ℕ) (nears : List Near) (k : ℕ) : Type 0 where
  pub low : k ≤ own
  pub supported : k ≤ support k nears
  pub greatest : (j : ℕ) → j ≤ own → j ≤ support j nears → j ≤ k

-- the first of k, k - 1, .. that so many neighbours reach
abbrev pub greatest_supported : ℕ → List Near → ℕ
greatest_supported zero nears = 0
greatest_supported (suc k) nears = if nat_le (suc k) (support (suc k) nears) then suc k else greatest_supported k nears
