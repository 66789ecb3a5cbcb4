-- What `init` leaves of the job's store, and which disks verbs open.
use Rattle.std.specs.Prelude.{◌≡◌, ℕ, Bool, IsTrue, is_some, List, [], length, Some, Result, Ok, Err, IfSome}
use Rattle.gl_base.specs.declared.job_faults.JobFault.{JobFault}
use Rattle.gl_outside.specs.Faults.{Rose}
use Rattle.gl_outside.specs.FilesState.{FilesState}
use Rattle.job_io.specs.job_config.Fields.{JobFields}
use Rattle.job_io.specs.job_config.Jobs.{JobSayings}
use Rattle.job_io.specs.whole_files.FilesUsed.{OpensInOrder}
use Rattle.job_io.specs.job_files.Atoms.{OfGraph}
use Rattle.job_io.specs.job_files.DoableJobs.{job_for}
use Rattle.job_io.specs.job_files.JobTexts.{OfJob, OfTexts, RefusesJob, RefusesTexts}
use Rattle.store.specs.declared.store_format.header.Header.{Header}
use Rattle.job_io.specs.job_stores.JobHeaders.{header_for}
use Rattle.job_io.specs.job_stores.NewStores.{HasBytes, IfDisksTold, IsNewStore}
use Rattle.engine_cli.specs.NamesWritten.{order_names}
use Rattle.engine_cli.specs.declared.status.Status.{Status}
use Rattle.engine_cli.specs.declared.status.Status.TheVariants.{Done, Usage, BadJob, BadGraph, BadAtoms, ReadFault, WriteFault, DiskFault, BadStore, BudgetSpent, SnapshotsFull, NoMemory}
use Rattle.job_io.specs.declared.job_files.jobs.JobVerb.{JobVerb}
use Rattle.job_io.specs.declared.job_files.jobs.JobVerb.TheVariants as verb

-- this holds of the name of the job's store, and of what a store of the job on its graph is for
abbrev pub OfStoreJob : FilesState → List ℕ → (List ℕ → Header → Type 0) → Type 0
OfStoreJob files file P =
    OfJob verb.Init files file (λ job. (name : List ℕ) × (job.store ≡ Some name) × OfTexts files job (OfGraph job (λ g. P name (header_for job g))))

-- What `init` says by its status, where `told` says whether it is told what disks hold: the store is made of a file without
-- bytes, and is on the disk; or why it is not.
abbrev pub MakesStore : Bool → List ℕ → FilesState → FilesState → Status → Type 0
MakesStore told file old new Done = OfStoreJob old file (λ name header. IfDisksTold told old (IsNewStore header (old.pasts name) (new.pasts name)))
MakesStore told file old new (Usage fault) = ⊥
MakesStore told file old new (BadJob fault) = RefusesJob verb.Init old file fault
MakesStore told file old new (BadGraph fault) = OfJob verb.Init old file (RefusesTexts old fault)
MakesStore told file old new (BadAtoms fault) = ⊥
MakesStore told file old new ReadFault = Rose old.sources.faults new.sources.faults
MakesStore told file old new WriteFault = ⊥
MakesStore told file old new DiskFault = Rose old.disks.faults new.disks.faults
MakesStore told file old new (BadStore fault) = OfStoreJob old file (λ name header. IfDisksTold told old (HasBytes (old.pasts name) fault))
MakesStore told file old new (BudgetSpent left) = ⊥
MakesStore told file old new (SnapshotsFull stored length) = ⊥
MakesStore told file old new NoMemory = new.pasts ≡ old.pasts

-- the store's name, if these bytes are a job
abbrev pub store_names : Result JobSayings JobFault → List (List ℕ)
store_names (Ok job) = order_names job.fields.store
store_names (Err fault) = []

-- the name that was handed to the open of disks is at most that of the job's store
abbrev pub HandsStore : JobVerb → FilesState → FilesState → List ℕ → Type 0
HandsStore asked old new file = IfSome (old.contents file) (λ bytes. OpensInOrder old.disks.names new.disks.names (store_names (job_for asked bytes)))

-- the job's store has this name
abbrev pub IsStoreName : JobVerb → FilesState → List ℕ → List ℕ → Type 0
IsStoreName asked files file name = OfJob asked files file (λ job. job.store ≡ Some name)

-- It is told what disks hold and which names they have, and the job's store has no bytes.
pub record HasEmptyStore (told : Bool) (files : FilesState) (job : JobFields) : Type 0 where
  pub held : IsTrue told
  pub named : IsTrue (is_some files.disks.names)
  pub empty : (name : List ℕ) → job.store ≡ Some name → length (files.pasts name).now.seen ≡ 0
