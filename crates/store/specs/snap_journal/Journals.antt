-- A journal, as its callers see it: a store on a disk.
use Rattle.std.specs.Prelude.{ℕ, Bool, List, ◌+◌, ◌≡◌, length}
use Rattle.store.specs.declared.store_format.header.Header.{Header}
use Rattle.store.specs.snap_journal.Disks.{DiskPast, IsImage}
use Rattle.store.specs.snap_journal.Formats.{DecodesTo, records_size, stored_in}

-- the disk, what the store is for, how many snapshots and bytes it has, and whether an earlier call found a fault of the disk
pub record JournalState (D : Type 0) : Type 0 where
  pub disk : D
  pub header : Header
  pub count : ℕ
  pub length : ℕ
  pub failed : Bool

-- the snapshots that a journal has: those of the bytes that its disk reads
abbrev pub snapshots_in : {D : Type 0} → (D → DiskPast) → JournalState D → List (List ℕ)
snapshots_in past journal = stored_in journal.header (past journal.disk).now.seen

-- whatever a crash now leaves stands for these snapshots
abbrev pub AllDecodeTo : Header → List (List ℕ) → DiskPast → Type 0
AllDecodeTo header bodies past = (image : List ℕ) → IsImage past.now image → DecodesTo header bodies image

-- The journal counts the snapshots and the bytes that its disk has, and whatever a crash now leaves has these snapshots.
pub record KnowsStore {D : Type 0} (past : D → DiskPast) (journal : JournalState D) : Type 0 where
  pub snapshots : journal.count ≡ length (snapshots_in past journal)
  pub bytes : journal.length ≡ 65 + records_size (snapshots_in past journal)
  pub durable : AllDecodeTo journal.header (snapshots_in past journal) (past journal.disk)
