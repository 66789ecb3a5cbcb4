-- What is read of a disk.
use Rattle.std.specs.Prelude.{◌≡◌, ℕ, ◌+◌, ◌-◌, ◌≤◌, min, Bool, true, false, List, [], length, take, drop, slice_index, Option, Some, None, Ok, Err, ⊤}
use Rattle.store.specs.declared.store_format.header.Header.{Header}
use Rattle.store.specs.store_format.Fields.{field}
use Rattle.store.specs.store_format.Bodies.{body_size}
use Rattle.store.specs.store_format.Records.{bodies_from, with_body}
use Rattle.store.specs.declared.snap_journal.faults.JournalFault.{JournalFault}
use Rattle.store.specs.declared.snap_journal.faults.JournalFault.TheVariants.{DiskFault, BadStore, Full, Failed, NoMemory}
use Rattle.store.specs.snap_journal.Disks.{Rose}

-- the front of the buffer has the bytes from this place on, as many as there are and as it has room for
pub record IsFilled (seen : List ℕ) (at : ℕ) (buf : List ℕ) (count : ℕ) : Type 0 where
  pub bytes : take count buf ≡ take count (drop at seen)
  pub all : count ≡ min (length buf) (length seen - at)

-- why bytes were not read
abbrev pub ReadErrorCause : ℕ → ℕ → JournalFault → Type 0
ReadErrorCause before now DiskFault = Rose before now
ReadErrorCause before now (BadStore fault) = ⊥
ReadErrorCause before now (Full stored bytes) = ⊥
ReadErrorCause before now Failed = ⊥
ReadErrorCause before now NoMemory = ⊤

-- these bytes begin with an open gate and this length, which is that of a body with the entries that are counted there, and the
-- body and the next gate are there
pub record HasLength (header : Header) (bytes : List ℕ) (size : ℕ) : Type 0 where
  pub gate : slice_index bytes 0 ≡ 1
  pub size_is : size ≡ field bytes 1 8
  pub own : size ≡ body_size header (field bytes 13 4)
  pub fits : 10 + size ≤ length bytes

-- what stands at a gate at this place: no record, or one whose body has this length
abbrev pub IsNextLength : Header → ℕ → ℕ → List ℕ → Option ℕ → Type 0
IsNextLength header number at bytes None = bodies_from header number at 0 bytes ≡ Ok []
IsNextLength header number at bytes (Some size) = HasLength header bytes size

-- what stands at a gate at this place: one more record, with this body, or none
abbrev pub IsNextBody : Header → ℕ → ℕ → List ℕ → List ℕ → Bool → Type 0
IsNextBody header number at seen body false = bodies_from header number at 0 (drop at seen) ≡ Ok []
IsNextBody header number at seen body true =
    bodies_from header number at 0 (drop at seen)
    ≡ with_body body (bodies_from header (number + 1) (at + (9 + length body)) 0 (drop (at + (9 + length body)) seen))

-- why a store was not read on from this place
abbrev pub NextBodyErrorCause : Type 0 → Header → ℕ → ℕ → List ℕ → ℕ → ℕ → JournalFault → Type 0
NextBodyErrorCause told header number at seen before now DiskFault = Rose before now
NextBodyErrorCause told header number at seen before now (BadStore fault) = told → bodies_from header number at 0 (drop at seen) ≡ Err fault
NextBodyErrorCause told header number at seen before now (Full stored bytes) = ⊥
NextBodyErrorCause told header number at seen before now Failed = ⊥
NextBodyErrorCause told header number at seen before now NoMemory = ⊤

-- why bytes that were read as a body of this length, behind the gate at this place, are none
abbrev pub BodyErrorCause : Header → ℕ → ℕ → ℕ → List ℕ → JournalFault → Type 0
BodyErrorCause header number at size body DiskFault = ⊥
BodyErrorCause header number at size body (BadStore fault) =
    (seen : List ℕ) → HasLength header (drop at seen) size → body ≡ take size (drop (at + 9) seen)
    → bodies_from header number at 0 (drop at seen) ≡ Err fault
BodyErrorCause header number at size body (Full stored bytes) = ⊥
BodyErrorCause header number at size body Failed = ⊥
BodyErrorCause header number at size body NoMemory = ⊤
