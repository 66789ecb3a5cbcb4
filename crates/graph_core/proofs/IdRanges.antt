-- The ranges of identifiers, as they are filled.
use Rattle.std.specs.Prelude.{ℕ, ◌+◌, ◌<◌, ◌≤◌, List, length, slice_index}
use Rattle.graph_core.specs.IdTable.{range_of}

-- the starts say at which place each range begins: so far, for the first n identifiers
pub record AreRangesTo (n : ℕ) (ids : List ℕ) (least shift : ℕ) (starts : List ℕ) : Type 0 where
  pub ascending : (r : ℕ) → r + 1 < length starts → slice_index starts r ≤ slice_index starts (r + 1)
  pub within : (r : ℕ) → r < length starts → slice_index starts r ≤ n
  pub found : (k : ℕ) → k < n → range_of least shift (slice_index ids k) < length starts
  pub begins : (k : ℕ) → k < n → slice_index starts (range_of least shift (slice_index ids k)) ≤ k
  pub ends : (k : ℕ) → k < n → range_of least shift (slice_index ids k) + 1 < length starts → k < slice_index starts (range_of least shift (slice_index ids k) + 1)
  pub next : (k : ℕ) → n ≤ k → k < length ids → length starts ≤ range_of least shift (slice_index ids k) + 1
