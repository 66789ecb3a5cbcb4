-- What is asked and given where the snapshot that is due is added to a store.
pub use Rattle.engine_runs.specs.declared.append.faults.AppendFault.{AppendFault}
pub use Rattle.cluster_step.specs.trace.Calls.{MakesCall}
pub use Rattle.recovery.specs.restarts.Missing.{Begins}
pub use Rattle.recovery.specs.declared.restarts.restarts.Restarts.{Restarts}
pub use Rattle.store.specs.snap_journal.Disks.{DiskPast, LeavesOnly}
pub use Rattle.store.specs.snap_journal.Journals.{JournalState, snapshots_in}
pub use Rattle.engine_runs.specs.answers.Lines.{IsLineOf, fold_in, numbers_after}
pub use Rattle.engine_runs.specs.declared.answers.runs.SnapLine.{SnapLine}
pub use Rattle.engine_runs.specs.stores.Stores.{CallOpening, Cluster, TraceView, Header, IsGoodStore, IsKnownTrace, IsRecordBehind, Machine, Setting, stored_order}
use Rattle.std.specs.List.Sorted.{IsNonDecreasingBy}
use Rattle.std.specs.Prelude.{List, [], false, filter, length, true, ℕ, ◌++◌, ◌+◌, ◌∷◌, ◌≡◌, ◌⊎◌}
use Rattle.gl_base.specs.declared.entries.Entry.{Entry}
use Rattle.gl_base.specs.declared.jobs.FailureAt.{FailureAt}
use Rattle.gl_base.specs.declared.snapshots.Record.{Record}
use Rattle.call_laws.specs.attempts.Entries.{is_restart}
use Rattle.engine_runs.specs.declared.append.faults.AppendFault.TheVariants.{DiskFault, Full, NoMemory, NotInForm}
use Rattle.call_laws.specs.attempts.EngineCalls.{EngineCall}
use Rattle.cluster_step.specs.trace.Traces.{InEachTrace, IsTraceNow}
use Rattle.cluster_step.specs.trace.Events.{IsEventDisabled}
use Rattle.cluster_laws.specs.cluster_model.Events as law
use Rattle.whole_laws.specs.cluster_records.Recorded.{snapshot_due}
use Rattle.cluster_laws.specs.cluster_runs.Attempts.{Shared}
use Rattle.cluster_laws.specs.cluster_runs.Recorded.{shared_of}
use Rattle.recovery.specs.Journals.{RecordFits, body_bytes}
use Rattle.cluster_step.specs.declared.clusters.events.Event.TheVariants as event
use Rattle.cluster_step.specs.declared.clusters.events.Lead.TheVariants as lead
use Rattle.store.specs.snap_journal.Answers.{IsFullFor}
use Rattle.store.specs.snap_journal.Disks.{Rose}
use Rattle.store.specs.snap_journal.Formats.{IsBody, DecodesTo}
use Rattle.store.specs.store_format.StoredOrders.{entry_rank}
use Rattle.call_laws.specs.whole_calls.Telling.{NeedsMoreStore}

-- ---- the record

-- The record is that of the snapshot that is due, with the restarts that a store lacks which has these: behind each order that has them. Its entries
-- stand in their turn.
pub record IsRecordWith (st : Setting) (stored front : List Entry) (c : Cluster) (made : Record) : Type 0 where
  pub number : made.number ≡ c.coordinator.begun
  pub behind : (before order : List Entry) → stored ≡ filter is_restart before → front ≡ filter is_restart order → IsRecordBehind st before order (snapshot_due c.coordinator) made
  pub in_turn : IsNonDecreasingBy entry_rank made.entries.items

-- so wherever a course has led
abbrev pub IsDueWith : {M : Type 0} → (Setting → ℕ → Machine → M → Type 0) → TraceView M → Restarts → Record → Type 0
IsDueWith represents v restarts made = InEachTrace represents v (λ st o events c. IsRecordWith st restarts.stored.items restarts.front.items c made)

-- The record has the number that is next in a store of so many snapshots, and its form.
pub record IsInForm (header : Header) (stored : ℕ) (made : Record) : Type 0 where
  pub number : made.number ≡ 1 + stored
  pub fits : RecordFits made
  pub form : IsBody header (1 + stored) (body_bytes made)

-- ---- why nothing was added

-- a store of so many snapshots and bytes has no room for the record of the snapshot that is due: it may not be acknowledged, or the record is
-- in the store's form, and too long
abbrev pub LacksRoomForDue : {M : Type 0} → (Setting → ℕ → Machine → M → Type 0) → TraceView M → Restarts → Header → ℕ → ℕ → Type 0
LacksRoomForDue represents v restarts header stored long =
    IsEventDisabled represents v (event.Lead lead.Record)
    ⊎ ((made : Record) × IsDueWith represents v restarts made × IsInForm header stored made × IsFullFor stored long (9 + length (body_bytes made)))

-- Why the snapshot was not added. Of `Full` the numbers are the store's. After `DiskFault` the store has to be opened again; and else nothing
-- of it has changed.
abbrev pub AppendDueErrorCause : {D M : Type 0} → (Setting → ℕ → Machine → M → Type 0) → TraceView M → Restarts → JournalState D → JournalState D → ℕ → ℕ → AppendFault → Type 0
AppendDueErrorCause represents v restarts old new before now (Full stored long) =
    (stored ≡ old.count) × (long ≡ old.length) × (new ≡ old) × LacksRoomForDue represents v restarts old.header old.count old.length
AppendDueErrorCause represents v restarts old new before now DiskFault = (new.failed ≡ true) × Rose before now
AppendDueErrorCause represents v restarts old new before now NotInForm =
    (new ≡ old) × ((made : Record) × IsDueWith represents v restarts made × (IsInForm old.header old.count made → ⊥))
AppendDueErrorCause represents v restarts old new before now NoMemory = new ≡ old

-- ---- what is known of the store

-- what is known of the store that a journal has
abbrev pub KnowsJournal : {D M : Type 0} → (Setting → ℕ → Machine → M → Type 0) → (D → DiskPast) → TraceView M → JournalState D → List (List ℕ) → List Entry → Restarts → List Entry → Setting → CallOpening → Type 0
KnowsJournal represents past v journal start lost restarts order st o =
    IsKnownTrace represents v journal.header start (snapshots_in past journal) lost restarts.stored.items restarts.front.items order st o

-- so in each setting and from each opening by which that is known
abbrev pub FromKnownJournal : {D M : Type 0} → (Setting → ℕ → Machine → M → Type 0) → (D → DiskPast) → TraceView M → JournalState D → Restarts → (Setting → CallOpening → Type 0) → Type 0
FromKnownJournal represents past v journal restarts Holds =
    (start : List (List ℕ)) (lost order : List Entry) (st : Setting) (o : CallOpening) → KnowsJournal represents past v journal start lost restarts order st o → Holds st o

-- the journal has one snapshot more
abbrev pub HasOneMore : {D : Type 0} → (D → DiskPast) → JournalState D → JournalState D → Type 0
HasOneMore past old new = (body : List ℕ) × (snapshots_in past new ≡ snapshots_in past old ++ body ∷ [])

-- The bytes stand for these snapshots, or for these and one more, and this is a good store.
pub record IsGoodImage (shared : Shared) (header : Header) (bodies : List (List ℕ)) (image : List ℕ) : Type 0 where
  pub stored : List (List ℕ)
  pub is : DecodesTo header stored image
  pub either : (stored ≡ bodies) ⊎ ((body : List ℕ) × (stored ≡ bodies ++ body ∷ []))
  pub good : IsGoodStore shared header stored

-- the line is that of the last of these snapshots
abbrev pub IsNewestLine : Setting → List FailureAt → List (List ℕ) → SnapLine → Type 0
IsNewestLine st failures bodies line = IsLineOf (shared_of st failures) (length bodies) (stored_order bodies) line

-- unless the run was ended, more of the store was needed in each course from this opening
abbrev pub NeedsMore : {M : Type 0} → (Setting → ℕ → Machine → M → Type 0) → TraceView M → Setting → CallOpening → Type 0
NeedsMore represents v st o =
    (events : List law.Event) (c : Cluster) → IsTraceNow represents v st o events c → (call : EngineCall) → MakesCall st v.failures o events c call →
    c.stopped ≡ false → NeedsMoreStore st c.coordinator call
