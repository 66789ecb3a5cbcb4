-- What running a job on its store answers, at each of its steps.
use Rattle.std.specs.Prelude.{◌≡◌, ◌⊎◌, ◌+◌, ◌*◌, ◌^◌, ◌<◌, ◌≤◌, ℕ, Bool, Some, false, true, List, length}
use Rattle.graph_atoms.specs.declared.atom_gather.cuts.Cut.{Cut}
use Rattle.gl_base.specs.declared.entries.Entry.{Entry}
use Rattle.gl_base.specs.declared.numbers.Vertex.{Vertex}
use Rattle.gl_outside.specs.Disk.{DiskPast}
use Rattle.gl_outside.specs.Faults.{Rose}
use Rattle.gl_outside.specs.FilesState.{FilesState}
use Rattle.gl_outside.specs.declared.files.OpenFault.{OpenFault}
use Rattle.gl_outside.specs.declared.files.OpenFault.TheVariants as open_fault
use Rattle.graph_core.specs.DataGraph.{DataGraph}
use Rattle.job_io.specs.job_config.Jobs.{JobSayings}
use Rattle.job_io.specs.job_config.Views.{job_view}
use Rattle.job_io.specs.declared.job_files.inputs.Input.{Input}
use Rattle.placement.specs.plans.Plays.{IsPlacement}
use Rattle.job_io.specs.job_stores.JobHeaders.{header_for}
use Rattle.job_io.specs.job_stores.NewStores.{IfDisksTold}
use Rattle.job_io.specs.declared.job_stores.making.StoreError.{StoreError}
use Rattle.job_io.specs.declared.job_stores.making.StoreError.TheVariants as no_store
use Rattle.store.specs.declared.snap_journal.faults.JournalFault.{JournalFault}
use Rattle.store.specs.declared.snap_journal.faults.JournalFault.TheVariants as journal
use Rattle.store.specs.declared.store_format.faults.StoreFault.{StoreFault}
use Rattle.store.specs.declared.store_format.faults.StoreFault.TheVariants.{BadByte, Used}
use Rattle.store.specs.declared.store_format.header.Header.{Header}
use Rattle.engine_runs.specs.answers.Images.{IsGoodStore, KeepsGood}
use Rattle.engine_runs.specs.declared.answers.runs.StoredEnd.TheVariants as end
use Rattle.engine_runs.specs.declared.answers.runs.StoredRun.{StoredRun}
use Rattle.update_api.specs.Updates.{Update}
use Rattle.engine_cli.specs.JobRuns.{BoundsSteps, HasRoomForRun, IsRunBy, IsStoredRun, RunsOnStore, Shared, lists_of, machines_for, records_size, store_plan, stored_in, stored_order}
use Rattle.engine_cli.specs.JobStores.{IsNotRunFrom, KeepsGoing, KeepsImages, RefusesStore}

-- what all attempts of a run of this program share
abbrev pub shared_with : JobSayings → DataGraph → Update → (ℕ → ℕ) → Shared
shared_with job g p owner = record { graph = g; program = p; owner = owner; failures = job.failures }

-- A run of this program on the placed graph, with the job's window and its end saved, from an opened store for this header with these snapshots. From one
-- that is good for it the run is one that goes on from it; it spends no budget that has the steps of each attempt, and fills no store that has room for it.
pub record IsStoreRunFrom (job : JobSayings) (g : DataGraph) (cut : Cut) (p : Update) (header : Header) (resumed : Bool) (bodies : List (List ℕ)) (old new : DiskPast) (run : StoredRun) : Type 0 where
  pub goes_on : (owner : ℕ → ℕ) → IsPlacement g cut job.fields.machines owner → IsGoodStore (shared_with job g p owner) header bodies →
      (snapshots : List (List Entry)) × IsStoredRun true (shared_with job g p owner) job.fields.machines job.fields.window job.fields.budget (length bodies) (stored_order bodies) resumed snapshots run
      × KeepsGood (shared_with job g p owner) header bodies snapshots old new
  pub placed : (owner : ℕ → ℕ) × IsPlacement g cut job.fields.machines owner
  pub machines : (owner : ℕ → ℕ) → IsPlacement g cut job.fields.machines owner → IsGoodStore (shared_with job g p owner) header bodies →
      IsRunBy g cut p (machines_for job (Some job.fields.window)) job.failures (lists_of run)
  pub enough : (owner : ℕ → ℕ) → IsPlacement g cut job.fields.machines owner → IsGoodStore (shared_with job g p owner) header bodies →
      (bound : ℕ) → BoundsSteps g p bound → (1 + length job.failures) * bound ≤ job.fields.budget → (left : Vertex) → run.end ≡ end.Spent left → ⊥
  pub roomy : (owner : ℕ → ℕ) → IsPlacement g cut job.fields.machines owner → IsGoodStore (shared_with job g p owner) header bodies →
      HasRoomForRun g (store_plan job) (length job.failures) (length bodies) (65 + records_size bodies) → (stored bytes : ℕ) → run.end ≡ end.Full stored bytes → ⊥
  pub full : (stored bytes : ℕ) → run.end ≡ end.Full stored bytes → (stored ≡ length (stored_in header new.now.seen)) × (bytes ≡ 65 + records_size (stored_in header new.now.seen))

-- a good store with these snapshots may have got others, and keeps what it had
abbrev pub IsStoreKept : JobSayings → DataGraph → Cut → Update → Header → List (List ℕ) → DiskPast → DiskPast → Type 0
IsStoreKept job g cut p header bodies old new =
    (owner : ℕ → ℕ) → IsPlacement g cut job.fields.machines owner → IsGoodStore (shared_with job g p owner) header bodies →
    (snapshots : List (List Entry)) × KeepsGood (shared_with job g p owner) header bodies snapshots old new

-- a store with these snapshots is not a good one for the placed graph, or is longer than one may grow
abbrev pub IsNotGood : JobSayings → DataGraph → Cut → Update → Header → List (List ℕ) → Type 0
IsNotGood job g cut p header bodies =
    (owner : ℕ → ℕ) → IsPlacement g cut job.fields.machines owner → IsGoodStore (shared_with job g p owner) header bodies
    → 65 + records_size bodies ≤ 2 ^ 30 → ⊥

-- Why there is no run of this program. Where it is told what the disk holds, a store is refused only where it is not good, and keeps what it had.
abbrev pub RunStoredErrorCause : Type 0 → JobSayings → DataGraph → Cut → Update → Header → List (List ℕ) → DiskPast → DiskPast → ℕ → ℕ → JournalFault → Type 0
RunStoredErrorCause told job g cut p header bodies old new before now journal.DiskFault = Rose before now × (told → new ≡ old)
RunStoredErrorCause told job g cut p header bodies old new before now (journal.BadStore fault) =
    told → IsNotGood job g cut p header bodies × ((new ≡ old) ⊎ IsStoreKept job g cut p header bodies old new)
RunStoredErrorCause told job g cut p header bodies old new before now (journal.Full stored length) = ⊥
RunStoredErrorCause told job g cut p header bodies old new before now journal.Failed = ⊥
RunStoredErrorCause told job g cut p header bodies old new before now journal.NoMemory = told → (new ≡ old) ⊎ IsStoreKept job g cut p header bodies old new

-- The store has these snapshots, which are none unless the run is resumed. It is not good, and no run came from it. The fault tells where it ended.
pub record IsNotGoneOnFrom (resumed : Bool) (job : JobSayings) (g : DataGraph) (cut : Cut) (p : Update) (header : Header) (bodies : List (List ℕ)) (old new : DiskPast) (fault : StoreFault) : Type 0 where
  pub fresh : resumed ≡ false → length bodies ≡ 0
  pub other : IsNotGood job g cut p header bodies
  pub place : fault ≡ BadByte (65 + records_size bodies)
  pub kept : (new ≡ old) ⊎ IsStoreKept job g cut p header bodies old new

-- the same of the job, from a store that may have to be new
abbrev pub RunOnJournalErrorCause : Type 0 → Bool → JobSayings → DataGraph → Cut → Update → Header → List (List ℕ) → DiskPast → DiskPast → ℕ → ℕ → StoreError → Type 0
RunOnJournalErrorCause told resumed job g cut p header bodies old new before now (no_store.BadStore fault) =
    told → ((resumed ≡ false) × (0 < length bodies) × (fault ≡ Used (length bodies)) × (new ≡ old)) ⊎ IsNotGoneOnFrom resumed job g cut p header bodies old new fault
RunOnJournalErrorCause told resumed job g cut p header bodies old new before now no_store.DiskFault = Rose before now × (told → new ≡ old)
RunOnJournalErrorCause told resumed job g cut p header bodies old new before now no_store.NoMemory = told → (new ≡ old) ⊎ IsStoreKept job g cut p header bodies old new

-- the same, from what the disk has
abbrev pub RunOnDiskErrorCause : Type 0 → Bool → JobSayings → DataGraph → Cut → DiskPast → DiskPast → ℕ → ℕ → StoreError → Type 0
RunOnDiskErrorCause told resumed job g cut old new before now (no_store.BadStore fault) =
    told → (RefusesStore resumed (header_for job.fields g) old.now.seen fault × KeepsImages old new) ⊎ IsNotRunFrom resumed job g cut old new fault
RunOnDiskErrorCause told resumed job g cut old new before now no_store.DiskFault = Rose before now × (told → KeepsImages old new)
RunOnDiskErrorCause told resumed job g cut old new before now no_store.NoMemory = told → KeepsImages old new ⊎ KeepsGoing job g cut old new

-- the same of the disk of this name
abbrev pub RunOnStoreErrorCause : Bool → Bool → List ℕ → Input → FilesState → FilesState → StoreError → Type 0
RunOnStoreErrorCause told resumed name input old new (no_store.BadStore fault) =
    IfDisksTold told old ((RefusesStore resumed (header_for (job_view input.job).fields input.graph) (old.pasts name).now.seen fault × KeepsImages (old.pasts name) (new.pasts name))
    ⊎ IsNotRunFrom resumed (job_view input.job) input.graph input.cut (old.pasts name) (new.pasts name) fault)
RunOnStoreErrorCause told resumed name input old new no_store.DiskFault =
    Rose old.disks.faults new.disks.faults × IfDisksTold told old (KeepsImages (old.pasts name) (new.pasts name))
RunOnStoreErrorCause told resumed name input old new no_store.NoMemory =
    IfDisksTold told old (KeepsImages (old.pasts name) (new.pasts name) ⊎ KeepsGoing (job_view input.job) input.graph input.cut (old.pasts name) (new.pasts name))

-- the run is one of the job on the disk of this name, and ended by a fault of the disk only where there was one
pub record IsRunIntoStore (told resumed : Bool) (name : List ℕ) (input : Input) (old new : FilesState) (run : StoredRun) : Type 0 where
  pub runs : IfDisksTold told old (RunsOnStore resumed (job_view input.job) input.graph input.cut (old.pasts name) (new.pasts name) run)
  pub fault : run.end ≡ end.DiskFault → Rose old.disks.faults new.disks.faults

-- a store was not opened whose file was not
abbrev pub no_store_of_open : OpenFault → StoreError
no_store_of_open open_fault.Failed = no_store.DiskFault
no_store_of_open open_fault.NoMemory = no_store.NoMemory

-- a store could not be used; one that is open is not full before the run
abbrev pub no_store_of_journal : JournalFault → StoreError
no_store_of_journal journal.DiskFault = no_store.DiskFault
no_store_of_journal (journal.BadStore fault) = no_store.BadStore fault
no_store_of_journal (journal.Full stored length) = no_store.DiskFault
no_store_of_journal journal.Failed = no_store.DiskFault
no_store_of_journal journal.NoMemory = no_store.NoMemory

-- no run came from a store that was open, and has so many bytes: one that is not as calls leave it is bad where it ends
abbrev pub no_store_of_run : JournalFault → ℕ → StoreError
no_store_of_run journal.DiskFault length = no_store.DiskFault
no_store_of_run (journal.BadStore fault) length = no_store.BadStore (BadByte length)
no_store_of_run (journal.Full stored bytes) length = no_store.DiskFault
no_store_of_run journal.Failed length = no_store.DiskFault
no_store_of_run journal.NoMemory length = no_store.NoMemory
