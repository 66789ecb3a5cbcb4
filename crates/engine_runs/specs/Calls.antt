-- Where a call with a store is as it goes on, and as it ends.
pub use Rattle.engine_runs.specs.append.Appends.{NeedsMore}
pub use Rattle.cluster_step.specs.trace.Traces.{CallOpening, TraceView, IsTraceNow, Setting}
pub use Rattle.engine_runs.specs.finish.Gathered.{IsTaskIn}
pub use Rattle.recovery.specs.restarts.Missing.{Begins}
pub use Rattle.cluster_step.specs.drive.Pauses.{NoneReached, PauseMeaning}
pub use Rattle.cluster_laws.specs.cluster_runs.Recorded.{shared_of}
pub use Rattle.placed_machines.specs.Beginning.{ArePlacesOf, IsAnyMachineOf, IsRunAt}
pub use Rattle.placed_machines.specs.declared.any_machine.machines.AnyMachine.{AnyMachine}
pub use Rattle.recovery.specs.Recovered.{IsHeaderOf}
pub use Rattle.store.specs.snap_journal.Disks.{DiskPast, IsImage, LeavesOnly}
pub use Rattle.store.specs.snap_journal.Journals.{JournalState, snapshots_in}
pub use Rattle.engine_runs.specs.answers.Images.{HoldsGood, orders_behind, stored_order}
pub use Rattle.engine_runs.specs.answers.Lines.{AreSnapLines}
pub use Rattle.engine_runs.specs.stores.Stores.{Cluster, Header, IsKnownTrace}
use Rattle.std.specs.Prelude.{Bool, Err, IsErrOf, List, Ok, Option, Result, Some, false, length, suc, true, ⊤, ℕ, ◌+◌, ◌++◌, ◌<◌, ◌^◌, ◌≡◌, ◌≤◌, ◌⊎◌}
use Rattle.engine_runs.specs.declared.append.faults.AppendFault.{AppendFault}
use Rattle.engine_runs.specs.declared.append.faults.AppendFault.TheVariants as append
use Rattle.cluster_step.specs.declared.drive.pauses.Pause.TheVariants as pause
use Rattle.graph_core.specs.DataGraph.{DataGraph}
use Rattle.recovery.specs.Journals.{records_size}
use Rattle.store.specs.snap_journal.Disks.{Rose}
use Rattle.store.specs.declared.snap_journal.faults.JournalFault.{JournalFault}
use Rattle.store.specs.declared.snap_journal.faults.JournalFault.TheVariants as fault
use Rattle.store.specs.declared.store_format.faults.StoreFault.{StoreFault}
use Rattle.store.specs.declared.store_format.faults.StoreFault.TheVariants.{BadByte}
use Rattle.engine_runs.specs.declared.answers.runs.StoredEnd.{StoredEnd}
use Rattle.engine_runs.specs.declared.answers.runs.StoredEnd.TheVariants as end
use Rattle.engine_runs.specs.declared.calls.StoredCall.{StoredCall}
use Rattle.update_api.specs.Updates.{Update}

-- what is known of the course of the call, and of a store of these snapshots
abbrev pub IsKnownAt : {P : Type 0} → (P → Update) → TraceView (AnyMachine P) → StoredCall P → Header → List (List ℕ) → List (List ℕ) → Setting → CallOpening → Type 0
IsKnownAt meaning v call header start bodies st o =
    IsKnownTrace (IsAnyMachineOf meaning) v header start bodies call.lost.items call.restarts.stored.items call.restarts.front.items call.order.items st o

-- Snapshots are taken. The store began with these snapshots, and has got others since, of which the call has a line each. Whatever a crash left since that first
-- time is a good store that begins with the first ones; and what one leaves now has the others besides.
pub record IsCallAt {D P : Type 0} (meaning : P → Update) (past : D → DiskPast) (call : StoredCall P) (journal : JournalState D) (start : List (List ℕ)) (first : DiskPast) (st : Setting) (o : CallOpening) : Type 0 where
  pub taken : st.stored ≡ true
  pub added : List (List ℕ)
  pub known : IsKnownAt meaning call.trace call journal.header start (start ++ added) st o
  pub stored : journal.failed ≡ false → snapshots_in past journal ≡ start ++ added
  pub lines : AreSnapLines (shared_of st call.trace.failures) (suc (length start)) (orders_behind (stored_order start) added) call.snapshots.items
  pub any_moment : LeavesOnly first (past journal.disk) (HoldsGood (shared_of st call.trace.failures) journal.header start)
  pub at_end : (image : List ℕ) → IsImage (past journal.disk).now image → HoldsGood (shared_of st call.trace.failures) journal.header (start ++ added) image

-- what a pause of this course gives for the end of the run, which is saved or not, where its store has these snapshots
abbrev pub PauseGives : {P : Type 0} → Bool → (P → Update) → TraceView (AnyMachine P) → List (List ℕ) → Setting → CallOpening → Cluster → StoredEnd → Type 0
PauseGives saves meaning v bodies st o c end.Finished = PauseMeaning (IsAnyMachineOf meaning) v pause.Ended ⊎ ((saves ≡ false) × PauseMeaning (IsAnyMachineOf meaning) v pause.Quiet)
PauseGives saves meaning v bodies st o c (end.Spent left) = PauseMeaning (IsAnyMachineOf meaning) v pause.Spent × IsTaskIn st c left.0
PauseGives saves meaning v bodies st o c (end.Full stored bytes) =
    (stored ≡ length bodies) × (bytes ≡ 65 + records_size bodies) × NoneReached (IsAnyMachineOf meaning) v × NeedsMore (IsAnyMachineOf meaning) v st o
PauseGives saves meaning v bodies st o c end.DiskFault = ⊤

-- The run has ended so: the course paused where it gives that, and is where it paused.
pub record IsCallEnded {D P : Type 0} (meaning : P → Update) (past : D → DiskPast) (call : StoredCall P) (journal : JournalState D) (start : List (List ℕ)) (first : DiskPast) (st : Setting) (o : CallOpening) (how : StoredEnd) : Type 0 where
  pub at : IsCallAt meaning past call journal start first st o
  pub paused : TraceView (AnyMachine P)
  pub known : IsKnownAt meaning paused call journal.header start (start ++ at.added) st o
  pub failures : paused.failures ≡ call.trace.failures
  pub now : IsTraceNow (IsAnyMachineOf meaning) call.trace st o known.was.events known.was.cluster
  pub gives : PauseGives call.saves_end meaning paused (start ++ at.added) st o known.was.cluster how

-- what ends a run by the counts of the disk's faults, and what the journal has then
abbrev pub EndsBy : {D : Type 0} → JournalState D → ℕ → ℕ → StoredEnd → Type 0
EndsBy journal before now end.Finished = journal.failed ≡ false
EndsBy journal before now (end.Spent left) = journal.failed ≡ false
EndsBy journal before now (end.Full stored bytes) = (journal.failed ≡ false) × (stored ≡ journal.count) × (bytes ≡ journal.length)
EndsBy journal before now end.DiskFault = (journal.failed ≡ true) × Rose before now

-- Why a run stopped without an end: memory ran out, or the store or a record for it was not as it should be.
abbrev pub StoppedRunErrorCause : JournalFault → Type 0
StoppedRunErrorCause fault.NoMemory = ⊤
StoppedRunErrorCause (fault.BadStore why) = ⊤
StoppedRunErrorCause fault.DiskFault = ⊥
StoppedRunErrorCause (fault.Full stored bytes) = ⊥
StoppedRunErrorCause fault.Failed = ⊥

-- it is the same call, on the same places, and the run goes on
pub record IsSameCall {P : Type 0} (old new : StoredCall P) : Type 0 where
  pub places : new.places ≡ old.places
  pub start : new.trace.start ≡ old.trace.start
  pub failures : new.trace.failures ≡ old.trace.failures
  pub machines : length new.trace.now.machines.items ≡ length old.trace.now.machines.items
  pub stopped : new.trace.now.stopped ≡ old.trace.now.stopped
  pub saves : new.saves_end ≡ old.saves_end

-- The call and its journal can go on: its graph is placed on its machines, the journal is of that graph and found no fault, and the run
-- wasn't stopped.
pub record CanCallGoOn {D P : Type 0} (g : DataGraph) (call : StoredCall P) (journal : JournalState D) : Type 0 where
  pub places : ArePlacesOf g (length call.trace.now.machines.items) call.places
  pub header : IsHeaderOf g journal.header
  pub restarts : Begins call.restarts.stored.items call.restarts.front.items
  pub well : journal.failed ≡ false
  pub running : call.trace.now.stopped ≡ false

-- The call has gone on, in each setting of the run, from where it was to where it is.
abbrev pub KeepsCall : {D P : Type 0} → (P → Update) → (D → DiskPast) → DataGraph → Update → StoredCall P → JournalState D → StoredCall P → JournalState D → Type 0
KeepsCall meaning past g program call journal later after =
    (start : List (List ℕ)) (first : DiskPast) (st : Setting) (o : CallOpening) → IsRunAt g program call.places st →
    IsCallAt meaning past call journal start first st o → IsCallAt meaning past later after start first st o

-- The call has gone on to somewhere, of which nothing may be left: where what the disk holds can be told, the journal kept up with it.
pub record HasGoneOn {D P : Type 0} (meaning : P → Update) (past : D → DiskPast) (told : Type 0) (g : DataGraph) (program : Update) (call : StoredCall P) (journal after : JournalState D) : Type 0 where
  pub later : StoredCall P
  pub same : IsSameCall call later
  pub keeps : told → KeepsCall meaning past g program call journal later after

-- and it has ended so
abbrev pub EndsCall : {D P : Type 0} → (P → Update) → (D → DiskPast) → DataGraph → Update → StoredCall P → JournalState D → StoredCall P → JournalState D → StoredEnd → Type 0
EndsCall meaning past g program call journal later after how =
    (start : List (List ℕ)) (first : DiskPast) (st : Setting) (o : CallOpening) → IsRunAt g program call.places st →
    IsCallAt meaning past call journal start first st o → IsCallEnded meaning past later after start first st o how

-- what becomes of a run where the snapshot that is due was not added to a store of so many bytes
abbrev pub end_of : AppendFault → ℕ → Result (Option StoredEnd) JournalFault
end_of (append.Full stored long) length = Ok (Some (end.Full stored long))
end_of append.DiskFault length = Ok (Some end.DiskFault)
end_of append.NotInForm length = Err (fault.BadStore (BadByte length))
end_of append.NoMemory length = Err fault.NoMemory

-- what becomes of a run that could not go back, with a store of so many bytes
abbrev pub end_without : JournalFault → ℕ → Result (Option StoredEnd) JournalFault
end_without fault.DiskFault length = Ok (Some end.DiskFault)
end_without (fault.Full stored bytes) length = Err (fault.BadStore (BadByte length))
end_without (fault.BadStore why) length = Err (fault.BadStore why)
end_without fault.NoMemory length = Err fault.NoMemory
end_without fault.Failed length = Err fault.Failed

-- The call draws fewer tickets than each snapshot may have, and so few failures, machines and bytes are there that all may go back.
pub record KeepsToBounds {D P : Type 0} (call : StoredCall P) (journal : JournalState D) (st : Setting) (o : CallOpening) : Type 0 where
  pub tickets : o.first.left < 33554432
  pub failures : length call.trace.failures ≤ 65536
  pub machines : st.machines < 65535
  pub bytes : journal.length ≤ 2 ^ 30

-- where the store has what the call knows of it, and all keeps to these bounds, it is not refused
abbrev pub IsNotRefused : {D P T : Type 0} → (P → Update) → (D → DiskPast) → StoredCall P → JournalState D → Setting → Result T JournalFault → Type 0
IsNotRefused meaning past call journal st result =
    (start : List (List ℕ)) (first : DiskPast) (o : CallOpening) → IsCallAt meaning past call journal start first st o → KeepsToBounds call journal st o → (why : StoreFault) → IsErrOf result (fault.BadStore why) → ⊥
