use Rattle.std.proofs.Common.{◌≡◌, ℕ, ◌+◌, ◌-◌, ◌*◌, ◌<◌, length, slice_index}
use Rattle.store.specs.store_format.StoredNumbers.{saved_at, saved_or}
use Rattle.store.proofs.store_format.numbers_read.put_saved.Given as goal

abbrev pub invariant-loop-i : goal.invariant-loop-i
invariant-loop-i l =
    (key : ℕ) → key < length l.initial.numbers
    → saved_or (slice_index l.numbers key) (saved_at (l.count - l.i) l.body (l.at + 12 * l.i)) key ≡ saved_or (slice_index l.initial.numbers key) (saved_at l.count l.body l.at) key
