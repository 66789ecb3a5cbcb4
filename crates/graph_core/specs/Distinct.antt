-- Numbers, each once and ascending.
use Rattle.std.specs.Prelude.{◌≡◌, ℕ, ◌<◌, ◌≤◌, List, length, nat_eq, AllPairs}
use Rattle.std.specs.List.{list_any}

-- the same numbers, each once, ascending
pub record AreDistinctOf (old new : List ℕ) : Type 0 where
  pub ascending : AllPairs (λ u v. u < v) new
  pub same : (u : ℕ) → list_any (nat_eq u) new ≡ list_any (nat_eq u) old
  pub few : length new ≤ length old
