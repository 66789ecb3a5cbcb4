-- What is said of a record that is put into a journal.
use Rattle.std.specs.Prelude.{List, [], false, length, true, ℕ, ⊤, ◌++◌, ◌+◌, ◌∷◌, ◌≡◌, ◌⊎◌}
use Rattle.gl_base.specs.declared.refusals.Refused.{Refused}
use Rattle.gl_base.specs.declared.refusals.Refused.TheVariants as refused
use Rattle.gl_base.specs.declared.snapshots.Record.{Record}
use Rattle.engine_runs.specs.append.Appends.{AppendFault, DiskPast, Header, IsInForm, JournalState, snapshots_in}
use Rattle.engine_runs.specs.declared.append.faults.AppendFault.TheVariants.{DiskFault, Full, NoMemory, NotInForm}
use Rattle.store.specs.snap_journal.Answers.{IsFullFor}
use Rattle.store.specs.snap_journal.Disks.{Rose}
use Rattle.store.specs.snap_journal.Formats.{DecodesTo, body_bytes}
use Rattle.store.specs.declared.snap_journal.faults.JournalFault.{JournalFault}
use Rattle.store.specs.declared.snap_journal.faults.JournalFault.TheVariants as fault

-- The record, which is in the form of the store, is the last one that the journal has.
pub record HasStored {D : Type 0} (told : Type 0) (past : D → DiskPast) (old new : JournalState D) (made : Record) : Type 0 where
  pub form : IsInForm old.header old.count made
  pub more : told → snapshots_in past new ≡ snapshots_in past old ++ body_bytes made ∷ []
  pub counted : new.count ≡ old.count + 1
  pub well : new.failed ≡ false

-- the bytes stand for these snapshots, or for these and the record, which is in the form of a store of so many
abbrev pub IsWithRecord : Header → ℕ → List (List ℕ) → Record → List ℕ → Type 0
IsWithRecord header stored bodies made image =
    DecodesTo header bodies image ⊎ (DecodesTo header (bodies ++ body_bytes made ∷ []) image × IsInForm header stored made)

-- why a record in the form of a store was not put into its journal
abbrev pub PutErrorCause : {D : Type 0} → JournalState D → JournalState D → ℕ → ℕ → Record → AppendFault → Type 0
PutErrorCause old new before now made (Full stored long) =
    (stored ≡ old.count) × (long ≡ old.length) × (new ≡ old) × IsFullFor old.count old.length (9 + length (body_bytes made))
PutErrorCause old new before now made DiskFault = (new.failed ≡ true) × Rose before now
PutErrorCause old new before now made NotInForm = ⊥
PutErrorCause old new before now made NoMemory = new ≡ old

-- why a record was not put into a journal
abbrev pub StoreRecordErrorCause : {D : Type 0} → JournalState D → JournalState D → ℕ → ℕ → Record → AppendFault → Type 0
StoreRecordErrorCause old new before now made NotInForm = (new ≡ old) × (IsInForm old.header old.count made → ⊥)
StoreRecordErrorCause old new before now made (Full stored long) = IsInForm old.header old.count made × PutErrorCause old new before now made (Full stored long)
StoreRecordErrorCause old new before now made DiskFault = PutErrorCause old new before now made DiskFault
StoreRecordErrorCause old new before now made NoMemory = PutErrorCause old new before now made NoMemory

-- why a record has no fold
abbrev pub FoldErrorCause : Header → ℕ → Record → AppendFault → Type 0
FoldErrorCause header stored made NotInForm = IsInForm header stored made → ⊥
FoldErrorCause header stored made (Full count long) = ⊥
FoldErrorCause header stored made DiskFault = ⊥
FoldErrorCause header stored made NoMemory = ⊤

-- the faults that come of a journal that had not failed
abbrev pub IsFaultOfAppend : JournalFault → Type 0
IsFaultOfAppend fault.Failed = ⊥
IsFaultOfAppend (fault.BadStore bad) = ⊥
IsFaultOfAppend _ = ⊤

-- such a fault, as one of this call
abbrev pub append_fault : JournalFault → AppendFault
append_fault (fault.Full stored long) = Full stored long
append_fault fault.DiskFault = DiskFault
append_fault fault.NoMemory = NoMemory
append_fault fault.Failed = NoMemory
append_fault (fault.BadStore bad) = NoMemory

-- why no record was made, for a store of so many snapshots and bytes
abbrev pub no_record : Refused → ℕ → ℕ → AppendFault
no_record refused.NotNow stored long = Full stored long
no_record refused.NoMemory stored long = NoMemory
