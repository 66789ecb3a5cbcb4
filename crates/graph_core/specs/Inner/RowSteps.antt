-- Rows in a flat list, as a counting sort fills them.
use Rattle.std.specs.Prelude.{◌≡◌, ℕ, zero, suc, ◌+◌, ◌-◌, ◌^◌, ◌<◌, ◌≤◌, List, drop, length, nat_lt, if◌then◌else◌, slice_index, slice_range}
use Rattle.graph_core.specs.Rows.{with_key}

-- the starts ascend, one for each row, and the end of the last row is the end of the items
pub record AreStarts (starts : List ℕ) (total : ℕ) : Type 0 where
  pub few : total < 2 ^ 32
  pub some : 0 < length starts
  pub first : slice_index starts 0 ≡ 0
  pub ascending : (k : ℕ) → k + 1 < length starts → slice_index starts k ≤ slice_index starts (k + 1)
  pub within : (k : ℕ) → k < length starts → slice_index starts k ≤ total
  pub last : slice_index starts (length starts - 1) ≡ total

-- how many items have a key below k
abbrev pub count_below : {T : Type 0} → ℕ → List (ℕ × T) → ℕ
count_below zero pairs = 0
count_below (suc k) pairs = count_below k pairs + length (with_key k pairs)

-- of each key the items from its place on are in their row, which begins where its start is
pub record AreRowsAt {T : Type 0} (place : ℕ → ℕ) (pairs : List (ℕ × T)) (starts : List ℕ) (items : List T) : Type 0 where
  pub left : (k : ℕ) → k < length starts → slice_index starts k + length (with_key k (drop (place k) pairs)) ≡ count_below (suc k) pairs
  pub rows : (k : ℕ) → k < length starts → slice_range items (slice_index starts k) (count_below (suc k) pairs) ≡ with_key k (drop (place k) pairs)

-- the same place for every key
abbrev pub AreRowsFrom : {T : Type 0} → ℕ → List (ℕ × T) → List ℕ → List T → Type 0
AreRowsFrom place pairs starts items = AreRowsAt (λ k. place) pairs starts items

-- keys below `low` are done, those from `high` on are still to come, and those between are at this place of so many
abbrev pub place_in : ℕ → ℕ → ℕ → ℕ → ℕ → ℕ
place_in low high place total k = if nat_lt k low then 0 else (if nat_lt k high then place else total)
