-- Lists of numbers.
use Rattle.std.specs.Prelude.{◌≡◌, ℕ, ◌<◌, List, length, slice_index}

-- each number is below those after it
abbrev pub Ascends : List ℕ → Type 0
Ascends numbers = (i j : ℕ) → i < j → j < length numbers → slice_index numbers i < slice_index numbers j

-- there are n numbers, and each is as `is` says of its place
pub record AreEach (n : ℕ) (is : ℕ → ℕ → Type 0) (numbers : List ℕ) : Type 0 where
  pub count : length numbers ≡ n
  pub each : (k : ℕ) → k < n → is k (slice_index numbers k)
