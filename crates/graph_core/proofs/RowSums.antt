-- Counts, as they become sums.
use Rattle.std.specs.Prelude.{◌≡◌, ℕ, ◌+◌, ◌<◌, ◌≤◌, List, take, length, sum, slice_index}

-- the numbers below k have become the sums up to them, and the others are as they were
pub record IsSummedUpTo (k : ℕ) (old new : List ℕ) : Type 0 where
  pub done : (j : ℕ) → j < k → j < length old → slice_index new j ≡ sum (take (j + 1) old)
  pub left : (j : ℕ) → k ≤ j → slice_index new j ≡ slice_index old j
