-- What each status of a run says: of the job's file and the texts, of the counts of faults, of the store, of the order's file, and of
-- what `out` gained.
use Rattle.std.specs.Prelude.{◌≡◌, ◌⊎◌, ℕ, Bool, IsTrue, false, is_some, length, List, Option, None, Some, Ok, IfSome, take}
use Rattle.std.specs.Io.KnownBytes.{Appends}
use Rattle.graph_atoms.specs.declared.atom_gather.cuts.Cut.{Cut}
use Rattle.gl_outside.specs.Disk.{DiskPast}
use Rattle.gl_outside.specs.Faults.{Rose}
use Rattle.gl_outside.specs.FilesState.{FilesState}
use Rattle.gl_outside.specs.Fronts.{AppendsFront}
use Rattle.graph_core.specs.DataGraph.{DataGraph}
use Rattle.job_io.specs.job_config.Fields.{JobFields}
use Rattle.job_io.specs.job_config.Jobs.{JobSayings}
use Rattle.job_io.specs.job_stores.JobHeaders.{header_for}
use Rattle.store.specs.store_format.Stores.{DecodesTo}
use Rattle.engine_runs.specs.declared.answers.runs.StoredEnd.{StoredEnd}
use Rattle.job_io.specs.whole_files.AtomNames.{index_name}
use Rattle.job_io.specs.whole_files.Leaves.{KeepsOrGives}
use Rattle.job_io.specs.job_files.Atoms.{HasAtoms, IsCutOf, RefusesAtoms, atom_files, atoms_fault, given_bytes}
use Rattle.job_io.specs.job_files.DoableJobs.{job_for}
use Rattle.job_io.specs.job_files.JobTexts.{DescribeJobGraph, OfJob, OfSaid, OfTexts, RefusesTexts, RefusesJob}
use Rattle.job_io.specs.declared.job_files.jobs.JobVerb.{JobVerb}
use Rattle.engine_cli.specs.declared.status.Status.{Status}
use Rattle.engine_cli.specs.declared.status.Status.TheVariants.{Done, Usage, BadJob, BadGraph, BadAtoms, ReadFault, WriteFault, DiskFault, BadStore, BudgetSpent, SnapshotsFull, NoMemory}
use Rattle.engine_cli.specs.Answer.{IsAnswer, IsValid, Printed}
use Rattle.engine_cli.specs.JobRuns.{CallLists, HasEnough, HasRoomForJob, IsStoreOfJob, MakesRun, is_resumed, no_lists, snapshots_on}
use Rattle.engine_cli.specs.JobStores.{HasOtherStore, KeepsAllImages, NamesStore, RefusesJobStore, RunsOutOnStore}
use Rattle.engine_runs.specs.declared.answers.runs.StoredEnd.TheVariants as end

-- The files, how many faults of `out` there were, and what it holds, as a call begins and as it ends.
pub record Moment : Type 0 where
  pub files : FilesState
  pub faults : ℕ
  pub held : Option (List ℕ)

abbrev pub moment : FilesState → ℕ → Option (List ℕ) → Moment
moment files faults held = record { files = files; faults = faults; held = held }

-- the texts are what a run prints that left no task and has these lists, and this holds of the job's name for the order's file and of them
abbrev pub PrintsAnswer : Bool → JobVerb → FilesState → (List ℕ → DiskPast) → List ℕ → Bool → CallLists → (Option (List ℕ) → Printed → Type 0) → Type 0
PrintsAnswer told asked old new file report lists holds =
    (printed : Printed)
    × OfSaid asked old file (λ job. holds job.fields.order printed × HasAtoms old job.fields × OfTexts old job.fields (IsAnswer told asked old new job report lists printed))

-- a run of the job was made that ended so, and has these lists
abbrev pub EndsRun : Bool → JobVerb → FilesState → (List ℕ → DiskPast) → List ℕ → CallLists → StoredEnd → Type 0
EndsRun told asked old new file lists ending =
    OfSaid asked old file (λ job. HasAtoms old job.fields × OfTexts old job.fields (MakesRun told asked old new job lists ending))

-- the order's file, if one is named, has these lines, where names are told
abbrev pub LeavesOrder : Option (List ℕ) → Moment → Moment → List ℕ → Type 0
LeavesOrder order before now lines = IfSome order (λ name. IfSome before.files.sinks.names (λ told. now.files.contents name ≡ Some lines))

-- The order's file, which is named, could not be written: it is what it was, or has a front of the lines. `out` holds what
-- it held.
pub record FailsAtOrder (order : Option (List ℕ)) (before now : Moment) (printed : Printed) : Type 0 where
  pub name : List ℕ
  pub named : order ≡ Some name
  pub rose : Rose before.files.sinks.faults now.files.sinks.faults
  pub left : KeepsOrGives before.files.sinks.names (before.files.contents name) (now.files.contents name) (λ bytes. (count : ℕ) × (bytes ≡ take count printed.lines))
  pub same : now.held ≡ before.held

-- `out` could not be written to its end: it gained a front of the answer. The order's file is written.
pub record FailsAtOut (order : Option (List ℕ)) (before now : Moment) (printed : Printed) : Type 0 where
  pub rose : Rose before.faults now.faults
  pub front : AppendsFront before.held now.held printed.answer
  pub ordered : LeavesOrder order before now printed.lines

-- What a call says by its status that made a run, where `tells` holds of what is reported.
abbrev pub RunOutcome : Bool → JobVerb → List ℕ → Bool → Moment → Moment → (List ℕ → Type 0) → CallLists → Status → Type 0
RunOutcome told asked file report before now tells lists Done =
    PrintsAnswer told asked before.files now.files.pasts file report lists
    (λ name printed. Appends before.held now.held printed.answer × tells printed.report × LeavesOrder name before now printed.lines)
RunOutcome told asked file report before now tells lists (Usage fault) = ⊥
RunOutcome told asked file report before now tells lists (BadJob fault) = ⊥
RunOutcome told asked file report before now tells lists (BadGraph fault) = ⊥
RunOutcome told asked file report before now tells lists (BadAtoms fault) = ⊥
RunOutcome told asked file report before now tells lists ReadFault = ⊥
RunOutcome told asked file report before now tells lists WriteFault =
    PrintsAnswer told asked before.files now.files.pasts file report lists (λ name printed. FailsAtOrder name before now printed ⊎ FailsAtOut name before now printed)
RunOutcome told asked file report before now tells lists DiskFault =
    Rose before.files.disks.faults now.files.disks.faults × EndsRun told asked before.files now.files.pasts file lists end.DiskFault
RunOutcome told asked file report before now tells lists (BadStore fault) = ⊥
RunOutcome told asked file report before now tells lists (BudgetSpent left) = EndsRun told asked before.files now.files.pasts file lists (end.Spent left)
RunOutcome told asked file report before now tells lists (SnapshotsFull stored length) = EndsRun told asked before.files now.files.pasts file lists (end.Full stored length)
RunOutcome told asked file report before now tells lists NoMemory = ⊥

-- Why no run was made, by the status of the call, or that memory ran out.
abbrev pub Refuses : Bool → JobVerb → List ℕ → FilesState → FilesState → Status → Type 0
Refuses told asked file old new Done = ⊥
Refuses told asked file old new (Usage fault) = ⊥
Refuses told asked file old new (BadJob fault) = RefusesJob asked old file fault
Refuses told asked file old new (BadGraph fault) = OfJob asked old file (RefusesTexts old fault)
Refuses told asked file old new (BadAtoms fault) = OfJob asked old file (RefusesAtoms old fault)
Refuses told asked file old new ReadFault = Rose old.sources.faults new.sources.faults
Refuses told asked file old new WriteFault = ⊥
Refuses told asked file old new DiskFault = Rose old.disks.faults new.disks.faults × NamesStore asked old file × KeepsAllImages told old new.pasts
Refuses told asked file old new (BadStore fault) = (RefusesJobStore told asked old file fault × KeepsAllImages told old new.pasts) ⊎ HasOtherStore told asked old new.pasts file fault
Refuses told asked file old new (BudgetSpent left) = ⊥
Refuses told asked file old new (SnapshotsFull stored length) = ⊥
Refuses told asked file old new NoMemory = KeepsAllImages told old new.pasts ⊎ RunsOutOnStore told asked old new.pasts file

-- What a call says by its status: what it says of the run that it made; or why it made none or ran out of memory, and then it leaves no lists.
abbrev pub StatusMeaning : Bool → JobVerb → List ℕ → Bool → Moment → Moment → (List ℕ → Type 0) → CallLists → Status → Type 0
StatusMeaning told asked file report before now tells lists status =
    RunOutcome told asked file report before now tells lists status ⊎ ((lists ≡ no_lists) × Refuses told asked file before.files now.files status)

-- The job's file and both texts are told and valid.
pub record IsReadable (asked : JobVerb) (files : FilesState) (file : List ℕ) : Type 0 where
  pub bytes : List ℕ
  pub bytes_told : files.contents file ≡ Some bytes
  pub job : JobSayings
  pub job_is : job_for asked bytes ≡ Ok job
  pub vertices : List ℕ
  pub edges : List ℕ
  pub vertices_told : files.contents job.fields.vertices ≡ Some vertices
  pub edges_told : files.contents job.fields.edges ≡ Some edges
  pub valid : IsValid job.fields vertices edges

-- the atoms, where the job names them, are told and have no fault on each graph that the texts tell
abbrev pub HasSoundAtoms : FilesState → JobFields → List ℕ → List ℕ → Type 0
HasSoundAtoms files job vertices edges =
    (prefix : List ℕ) (g : DataGraph) → job.atoms_at ≡ Some prefix → DescribeJobGraph job vertices edges g
    → IsTrue (is_some files.sources.names) × (atoms_fault g (given_bytes files (index_name prefix)) (atom_files files prefix) ≡ None)

-- Input of a run without a store that is told and valid: the budget is no less than the step bound for each attempt, and the atoms, where the job names them,
-- are told and have no fault. No count rose.
pub record IsSound (asked : JobVerb) (file : List ℕ) (before now : Moment) : Type 0 where
  pub input : IsReadable asked before.files file
  pub alone : input.job.fields.store ≡ None
  pub enough : (g : DataGraph) → DescribeJobGraph input.job.fields input.vertices input.edges g → HasEnough input.job g
  pub atoms : HasSoundAtoms before.files input.job.fields input.vertices input.edges
  pub no_read_fault : Rose before.files.sources.faults now.files.sources.faults → ⊥
  pub no_write_fault : Rose before.files.sinks.faults now.files.sinks.faults → ⊥
  pub no_fault_of_out : Rose before.faults now.faults → ⊥

-- the disk has a store of the job on the graph, which is cut so and placed
pub record HasStoreOfJob (job : JobSayings) (g : DataGraph) (cut : Cut) (past : DiskPast) : Type 0 where
  pub owner : ℕ → ℕ
  pub front : List (List ℕ)
  pub good : IsStoreOfJob job g cut owner front past

-- A disk is a store from which the job's run on this graph can come to its end, resumed or not. Its bytes are those of a store for them, without snapshots unless the
-- run is resumed; it is one of the job on the graph, cut as the job says and the files of its atoms tell; and budget and room are enough.
pub record HasSoundStore (resumed : Bool) (files : FilesState) (job : JobSayings) (g : DataGraph) (past : DiskPast) : Type 0 where
  pub stands : DecodesTo (header_for job.fields g) (snapshots_on job g past) past.now.seen
  pub fresh : resumed ≡ false → length (snapshots_on job g past) ≡ 0
  pub good : (cut : Cut) → IsCutOf files job.fields g cut → HasStoreOfJob job g cut past
  pub enough : HasEnough job g
  pub room : HasRoomForJob job g (snapshots_on job g past)

-- Input of a run on a store that is told and valid: it is told which names disks have and what they hold, the job's store is sound for each graph that the texts
-- tell, and the atoms, where the job names them, are told and have no fault. No count rose.
pub record IsSoundOnStore (told : Bool) (asked : JobVerb) (file : List ℕ) (before now : Moment) : Type 0 where
  pub input : IsReadable asked before.files file
  pub held : IsTrue told
  pub named : IsTrue (is_some before.files.disks.names)
  pub name : List ℕ
  pub name_is : input.job.fields.store ≡ Some name
  pub store : (g : DataGraph) → DescribeJobGraph input.job.fields input.vertices input.edges g → HasSoundStore (is_resumed asked) before.files input.job g (before.files.pasts name)
  pub atoms : HasSoundAtoms before.files input.job.fields input.vertices input.edges
  pub no_read_fault : Rose before.files.sources.faults now.files.sources.faults → ⊥
  pub no_write_fault : Rose before.files.sinks.faults now.files.sinks.faults → ⊥
  pub no_fault_of_out : Rose before.faults now.faults → ⊥
  pub no_disk_fault : Rose before.files.disks.faults now.files.disks.faults → ⊥
