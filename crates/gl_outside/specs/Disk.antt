-- A disk: what a read gives, what a crash now may leave, and what a crash at some moment since a time may have left.
use Rattle.std.specs.Prelude.{◌≡◌, ◌⊎◌, ℕ, ◌+◌, ◌-◌, ◌<◌, ◌≤◌, List, [], ◌∷◌, ◌++◌, length, take, drop, replicate, slice_index, slice_index_or, All, Result, Ok, Err}

-- the bytes of one write: the place of the first, and how many they are
pub record ByteRange : Type 0 where
  pub at : ℕ
  pub size : ℕ

-- the place is not in the range
abbrev pub IsOutside : ℕ → ByteRange → Type 0
IsOutside place range = (place < range.at) ⊎ (range.at + range.size ≤ place)

-- what a read gives, what the last sync left, and the ranges that were written since
pub record DiskState : Type 0 where
  pub seen : List ℕ
  pub synced : List ℕ
  pub written : List ByteRange

-- Bytes in these ranges and past the old end may be any; before the old end each byte outside every range stays.
pub record IsTorn (bytes : List ℕ) (ranges : List ByteRange) (image : List ℕ) : Type 0 where
  pub no_shorter : length bytes ≤ length image
  pub stays : (place : ℕ) → place < length bytes → All (IsOutside place) ranges → slice_index image place ≡ slice_index bytes place

-- what a crash may leave of what the last sync left: that itself where nothing was written since
abbrev pub MayLeave : List ℕ → List ByteRange → List ℕ → Type 0
MayLeave synced [] image = image ≡ synced
MayLeave synced (range ∷ ranges) image = IsTorn synced (range ∷ ranges) image

-- a crash in this state may leave this
abbrev pub IsImage : DiskState → List ℕ → Type 0
IsImage disk image = MayLeave disk.synced disk.written image

-- these bytes with the piece at this place; a gap before it is filled with zeros
abbrev pub with_piece : List ℕ → ℕ → List ℕ → List ℕ
with_piece bytes at piece = take at bytes ++ replicate (at - length bytes) 0 ++ piece ++ drop (at + length piece) bytes

-- so many bytes from this place on are written, after which a read gives this
abbrev pub after_write : DiskState → ℕ → ℕ → List ℕ → DiskState
after_write disk at size seen = record disk { seen = seen; written = disk.written ++ (record { at = at; size = size }) ∷ [] }

-- what a read gives is on the disk
abbrev pub after_sync : DiskState → DiskState
after_sync disk = record { seen = disk.seen; synced = disk.seen; written = [] }

-- the states of a disk: those that it had, the first one first, and the one that it has now
pub record DiskPast : Type 0 where
  pub before : List DiskState
  pub now : DiskState

-- these bytes, all of them on the disk
abbrev pub at_rest : List ℕ → DiskPast
at_rest bytes = record { before = []; now = record { seen = bytes; synced = bytes; written = [] } }

-- one state more
abbrev pub followed_by : DiskPast → DiskState → DiskPast
followed_by past state = record { before = past.before ++ past.now ∷ []; now = state }

-- the clock: how many states there were before
abbrev pub clock : DiskPast → ℕ
clock past = length past.before

-- the state at a moment
abbrev pub state_at : DiskPast → ℕ → DiskState
state_at past moment = slice_index_or past.before moment past.now

-- what a crash now may leave
abbrev pub images_now : DiskPast → List ℕ → Type 0
images_now past image = IsImage past.now image

-- what a crash at some moment from that time on may have left
abbrev pub images_since : DiskPast → ℕ → List ℕ → Type 0
images_since past since image = (moment : ℕ) × (since ≤ moment) × (moment ≤ clock past) × IsImage (state_at past moment) image

-- A crash at any moment since the old state left what has P.
pub record LeavesOnly (old new : DiskPast) (P : List ℕ → Type 0) : Type 0 where
  pub later : clock old ≤ clock new
  pub each : (image : List ℕ) → images_since new (clock old) image → P image
  -- for a run that began earlier
  pub before : (since : ℕ) (image : List ℕ) → since ≤ clock old → images_since new since image → images_since old since image ⊎ P image

-- a write that failed changed nothing, or it changed what a read gives in its range and past the end alone
abbrev pub FailsToWrite : DiskPast → ℕ → ℕ → DiskPast → Type 0
FailsToWrite old at size new =
    (new ≡ old)
    ⊎ ((seen : List ℕ) × IsTorn old.now.seen ((record { at = at; size = size }) ∷ []) seen × (new ≡ followed_by old (after_write old.now at size seen)))

-- a write, by its answer
abbrev pub WritesAt : {E : Type 0} → DiskPast → ℕ → List ℕ → DiskPast → Result (Unit {0}) E → Type 0
WritesAt old at piece new (Ok done) = new ≡ followed_by old (after_write old.now at (length piece) (with_piece old.now.seen at piece))
WritesAt old at piece new (Err fault) = FailsToWrite old at (length piece) new

-- a sync, by its answer: one that fails leaves all as it was
abbrev pub Syncs : {E : Type 0} → DiskPast → DiskPast → Result (Unit {0}) E → Type 0
Syncs old new (Ok done) = new ≡ followed_by old (after_sync old.now)
Syncs old new (Err fault) = new ≡ old

-- so many bytes from this place on were read into the front of the buffer, and none only where there is none or the buffer
-- is empty
pub record ReadsSome (seen : List ℕ) (at : ℕ) (buf : List ℕ) (count : ℕ) : Type 0 where
  pub bound : count ≤ length buf
  pub bytes : take count buf ≡ take count (drop at seen)
  pub inside : (at + count ≤ length seen) ⊎ (count ≡ 0)
  pub end : count ≡ 0 → 0 < length buf → length seen ≤ at

-- a read, by its answer
abbrev pub ReadsAt : {E : Type 0} → List ℕ → ℕ → List ℕ → Result ℕ E → Type 0
ReadsAt seen at buf (Ok count) = ReadsSome seen at buf count
ReadsAt seen at buf (Err fault) = Unit {0}
