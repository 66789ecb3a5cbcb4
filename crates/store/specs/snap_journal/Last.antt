-- The last snapshot of a store.
use Rattle.std.specs.Prelude.{◌≡◌, ℕ, ◌+◌, ◌^◌, ◌<◌, Bool, true, false, List, [], ◌∷◌, length, Option, Some, None}
use Rattle.gl_base.specs.declared.snapshots.Base.{Base}
use Rattle.store.specs.declared.store_format.header.Header.{Header}
use Rattle.store.specs.declared.snap_journal.faults.JournalFault.{JournalFault}
use Rattle.store.specs.declared.snap_journal.faults.JournalFault.TheVariants.{DiskFault, BadStore, Full, Failed, NoMemory}
use Rattle.store.specs.snap_journal.Disks.{Rose}
use Rattle.store.specs.snap_journal.Formats.{records_size, stored_order, AreNumbersOf}

-- the last of these bodies, or this one where there is none
abbrev pub last_body_or : List ℕ → List (List ℕ) → List ℕ
last_body_or body [] = body
last_body_or body (later ∷ bodies) = last_body_or later bodies

-- the body of the last record
abbrev pub last_body : List (List ℕ) → List ℕ
last_body bodies = last_body_or [] bodies

-- The base is the last of these snapshots: its number is how many there are, it has their order and the numbers of the last
-- one, and its length is that of a store of them.
pub record IsLastSnapshot (header : Header) (bodies : List (List ℕ)) (base : Base) : Type 0 where
  pub number : base.number ≡ length bodies
  pub order : base.order.items ≡ stored_order bodies
  pub numbers : AreNumbersOf header (last_body bodies) base.values.items base.edges.items
  pub length : base.length ≡ 65 + records_size bodies

-- there is no snapshot, or this is the last one
abbrev pub IsLast : Header → List (List ℕ) → Option Base → Type 0
IsLast header bodies None = length bodies ≡ 0
IsLast header bodies (Some base) = (0 < length bodies) × IsLastSnapshot header bodies base

-- A base that was read for a header: it has a number for each vertex and each edge, and its own number fits where one more does.
pub record FitsHeader (header : Header) (base : Base) : Type 0 where
  pub vertices : length base.values.items ≡ header.n
  pub edges : length base.edges.items ≡ header.m
  pub number : base.number + 1 < 2 ^ 32

-- Why no last snapshot was read. `old` and `new` tell whether an earlier call had found a fault of the disk, and whether one has now.
-- Where a disk tells what it holds, its bytes are a store.
abbrev pub LastErrorCause : Type 0 → Bool → Bool → ℕ → ℕ → JournalFault → Type 0
LastErrorCause told old new before now DiskFault = (old ≡ false) × (new ≡ true) × Rose before now
LastErrorCause told old new before now (BadStore fault) = (¬ told) × (old ≡ false) × (new ≡ false)
LastErrorCause told old new before now (Full stored bytes) = ⊥
LastErrorCause told old new before now Failed = (old ≡ true) × (new ≡ true)
LastErrorCause told old new before now NoMemory = (old ≡ false) × (new ≡ false)
