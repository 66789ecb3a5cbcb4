-- What a store is found to have, as it is read from front to back.
use Rattle.std.specs.Prelude.{◌≡◌, ℕ, ◌+◌, Bool, true, false, if◌then◌else◌, List, [], length, is_ok, IsTrue}
use Rattle.std.specs.List.{flat_map}
use Rattle.gl_base.specs.declared.entries.Entry.{Entry}
use Rattle.gl_base.specs.declared.snapshots.Base.{Base}
use Rattle.store.specs.declared.store_format.header.Header.{Header}
use Rattle.store.specs.declared.snap_journal.faults.JournalFault.{JournalFault}
use Rattle.store.specs.declared.snap_journal.faults.JournalFault.TheVariants.{DiskFault, BadStore, Full, Failed, NoMemory}
use Rattle.store.specs.snap_journal.Formats.{read_store, stored_in, records_size, body_entries, stored_order, AreNumbersOf}

-- so many snapshots, and the gate behind them at this place
pub record IsFound (header : Header) (seen : List ℕ) (count gate : ℕ) : Type 0 where
  pub reads : IsTrue (is_ok (read_store header seen))
  pub counts : count ≡ length (stored_in header seen)
  pub place : gate ≡ 64 + records_size (stored_in header seen)

-- the entries of these records, one record behind the other, where they are to be kept
abbrev pub entries_kept : Bool → List (List ℕ) → List Entry
entries_kept keep bodies = if keep then flat_map body_entries bodies else []

-- The base ends what was found: so many snapshots, the gate behind them at this place, these entries and this last body.
pub record IsFoundBase (header : Header) (count gate : ℕ) (entries : List Entry) (body : List ℕ) (base : Base) : Type 0 where
  pub number : base.number ≡ count
  pub order : (bodies : List (List ℕ)) → entries ≡ flat_map body_entries bodies → base.order.items ≡ stored_order bodies
  pub numbers : AreNumbersOf header body base.values.items base.edges.items
  pub length : base.length ≡ gate + 1

-- the fault is one of the disk
abbrev pub is_disk_fault : JournalFault → Bool
is_disk_fault DiskFault = true
is_disk_fault (BadStore fault) = false
is_disk_fault (Full stored bytes) = false
is_disk_fault Failed = false
is_disk_fault NoMemory = false
