-- What a run finds and leaves of the job's store where none is made, or memory ran out.
use Rattle.std.specs.Prelude.{◌≡◌, ◌⊎◌, ◌+◌, ◌^◌, ◌<◌, ◌≤◌, ℕ, Bool, IsTrue, is_some, false, List, length, Some, Err}
use Rattle.graph_atoms.specs.declared.atom_gather.cuts.Cut.{Cut}
use Rattle.gl_base.specs.declared.entries.Entry.{Entry}
use Rattle.gl_outside.specs.Disk.{DiskPast, IsImage, LeavesOnly}
use Rattle.gl_outside.specs.FilesState.{FilesState}
use Rattle.graph_core.specs.DataGraph.{DataGraph}
use Rattle.job_io.specs.job_config.Jobs.{JobSayings}
use Rattle.job_io.specs.job_files.Atoms.{OfJobCut, OfGraph}
use Rattle.job_io.specs.job_files.JobTexts.{OfJob, OfSaid, OfTexts}
use Rattle.job_io.specs.declared.job_files.jobs.JobVerb.{JobVerb}
use Rattle.placement.specs.plans.Plays.{IsPlacement}
use Rattle.job_io.specs.job_stores.JobHeaders.{header_for}
use Rattle.job_io.specs.job_stores.NewStores.{IfDisksTold}
use Rattle.store.specs.store_format.Stores.{DecodesTo, read_store}
use Rattle.store.specs.declared.store_format.faults.StoreFault.{StoreFault}
use Rattle.store.specs.declared.store_format.faults.StoreFault.TheVariants.{BadByte, Used}
use Rattle.store.specs.declared.store_format.header.Header.{Header}
use Rattle.engine_cli.specs.JobRuns.{IsStoreOfJob, KeepsStore, is_resumed, records_size, shared_by, snapshots_on}
use Rattle.engine_cli.specs.StoreJobs.{HandsStore, IsStoreName}

-- the bytes are those of a store that has snapshots, and the fault tells how many
pub record IsUsed (header : Header) (seen : List ℕ) (fault : StoreFault) : Type 0 where
  pub snapshots : List (List ℕ)
  pub stands : DecodesTo header snapshots seen
  pub some : 0 < length snapshots
  pub told : fault ≡ Used (length snapshots)

-- why the store is refused: it has this first fault, or it has snapshots and the run is not resumed
abbrev pub RefusesStore : Bool → Header → List ℕ → StoreFault → Type 0
RefusesStore resumed header seen fault = (read_store header seen ≡ Err fault) ⊎ ((resumed ≡ false) × IsUsed header seen fault)

-- The store is none that calls leave, on a graph that is cut so and placed: it is longer than one may grow, or it is not one of the job by the owners of that placement.
pub record IsOtherStore (job : JobSayings) (g : DataGraph) (cut : Cut) (past : DiskPast) : Type 0 where
  pub placed : (owner : ℕ → ℕ) × IsPlacement g cut job.fields.machines owner
  pub other : (owner : ℕ → ℕ) (front : List (List ℕ)) → IsStoreOfJob job g cut owner front past → 65 + records_size (snapshots_on job g past) ≤ 2 ^ 30 → ⊥

-- a crash at any moment of the call left what one as it began would have left
abbrev pub KeepsImages : DiskPast → DiskPast → Type 0
KeepsImages old new = LeavesOnly old new (IsImage old.now)

-- where it is told what disks hold, this is so of each disk
abbrev pub KeepsAllImages : Bool → FilesState → (List ℕ → DiskPast) → Type 0
KeepsAllImages told old new = (name : List ℕ) → IfDisksTold told old (KeepsImages (old.pasts name) (new name))

-- A run that went on from a good store wanted memory, on a graph that is cut so and placed: it may have got snapshots, and the store keeps all that it had.
pub record KeepsGoing (job : JobSayings) (g : DataGraph) (cut : Cut) (old new : DiskPast) : Type 0 where
  pub placed : (owner : ℕ → ℕ) × IsPlacement g cut job.fields.machines owner
  pub keeps : (owner : ℕ → ℕ) (front : List (List ℕ)) → IsStoreOfJob job g cut owner front old
      → (snapshots : List (List Entry)) × KeepsStore (shared_by job g owner) (header_for job.fields g) front (snapshots_on job g old) snapshots old new

-- The store has the form of one for the job, with no snapshots unless the run is resumed; but it is none that calls leave, and no run came from it. The fault is
-- a bad byte where it ended as it was opened. What a crash left is what one as the call began would have left; or from a good store it has all that it had.
pub record IsNotRunFrom (resumed : Bool) (job : JobSayings) (g : DataGraph) (cut : Cut) (old new : DiskPast) (fault : StoreFault) : Type 0 where
  pub stands : DecodesTo (header_for job.fields g) (snapshots_on job g old) old.now.seen
  pub fresh : resumed ≡ false → length (snapshots_on job g old) ≡ 0
  pub other : IsOtherStore job g cut old
  pub place : fault ≡ BadByte (65 + records_size (snapshots_on job g old))
  pub kept : KeepsImages old new ⊎ KeepsGoing job g cut old new

-- this holds of the name of the job's store, and of all that the job says and its graph
abbrev pub OfStoredJob : JobVerb → FilesState → List ℕ → (List ℕ → JobSayings → DataGraph → Type 0) → Type 0
OfStoredJob asked files file P =
    OfSaid asked files file (λ job. (name : List ℕ) × (job.fields.store ≡ Some name) × OfTexts files job.fields (OfGraph job.fields (λ g. P name job g)))

-- the job's store is refused
abbrev pub RefusesJobStore : Bool → JobVerb → FilesState → List ℕ → StoreFault → Type 0
RefusesJobStore told asked old file fault =
    OfStoredJob asked old file (λ name job g. IfDisksTold told old (RefusesStore (is_resumed asked) (header_for job.fields g) (old.pasts name).now.seen fault))

-- the job's store has its form, is not a good one, and no run came from it
abbrev pub HasOtherStore : Bool → JobVerb → FilesState → (List ℕ → DiskPast) → List ℕ → StoreFault → Type 0
HasOtherStore told asked old new file fault =
    OfStoredJob asked old file (λ name job g. OfJobCut old job.fields g (λ cut. IfDisksTold told old (IsNotRunFrom (is_resumed asked) job g cut (old.pasts name) (new name) fault)))

-- memory ran out, of a run that went on from the job's store
abbrev pub RunsOutOnStore : Bool → JobVerb → FilesState → (List ℕ → DiskPast) → List ℕ → Type 0
RunsOutOnStore told asked old new file = OfStoredJob asked old file (λ name job g. OfJobCut old job.fields g (λ cut. IfDisksTold told old (KeepsGoing job g cut (old.pasts name) (new name))))

-- the job names a store
abbrev pub NamesStore : JobVerb → FilesState → List ℕ → Type 0
NamesStore asked files file = OfJob asked files file (λ job. IsTrue (is_some job.store))

-- no disk was opened, and none changed
pub record LeavesDisks (old new : FilesState) : Type 0 where
  pub pasts : new.pasts ≡ old.pasts
  pub disks : new.disks ≡ old.disks

-- The job's store alone was opened as a disk, and no other disk changed. Where the job names none, no disk was opened.
pub record UsesStore (asked : JobVerb) (file : List ℕ) (old new : FilesState) : Type 0 where
  pub handed : HandsStore asked old new file
  pub others : (name : List ℕ) → (IsStoreName asked old file name → ⊥) → new.pasts name ≡ old.pasts name
  pub unless : LeavesDisks old new ⊎ NamesStore asked old file
  pub later : old.disks.faults ≤ new.disks.faults
