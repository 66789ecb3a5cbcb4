-- What a call says of each verb.
use Rattle.std.specs.Prelude.{◌≡◌, ◌≢◌, ◌≤◌, ℕ, Bool, false, List, [], ◌∷◌, ⊤}
use Rattle.gl_base.specs.declared.jobs.MakePlan.{MakePlan}
use Rattle.gl_base.specs.declared.text_faults.TextFile.TheVariants.{Vertices, Edges}
use Rattle.gl_outside.specs.Faults.{Rose}
use Rattle.gl_outside.specs.FilesState.{FilesState}
use Rattle.gl_outside.specs.Frames.{ChangesSources}
use Rattle.job_io.specs.declared.job_words.words.Words.{Words}
use Rattle.job_io.specs.declared.job_words.words.Words.TheVariants.{Run, Resume, Make, Cut, Init}
use Rattle.engine_cli.specs.declared.ended.Ended.{Ended}
use Rattle.engine_cli.specs.declared.status.Status.{Status}
use Rattle.engine_cli.specs.declared.status.Status.TheVariants.{NoMemory}
use Rattle.job_io.specs.declared.job_files.jobs.JobVerb.{JobVerb}
use Rattle.engine_cli.specs.JobRuns.{CallLists, lists_of_call, no_lists}
use Rattle.engine_cli.specs.JobStores.{UsesStore}
use Rattle.job_io.specs.whole_files.FilesUsed.{OpensInOrder, WritesFiles}
use Rattle.engine_cli.specs.CutJobs.{Cuts, LeavesCutFronts}
use Rattle.engine_cli.specs.StoreJobs.{HandsStore, HasEmptyStore, IsStoreName, MakesStore}
use Rattle.job_io.specs.job_stores.NewStores.{KeepsFilledDisks}
use Rattle.engine_cli.specs.NamesWritten.{WriteOpens, IsWrittenName}
use Rattle.job_io.specs.job_files.NamesRead.{RunOpens, names_of}
use Rattle.job_io.specs.graph_files.Made.{LeavesFront, edges_name, vertices_name}
use Rattle.engine_cli.specs.Made.{Makes}
use Rattle.engine_cli.specs.StatusMeanings.{IsReadable, IsSound, IsSoundOnStore, Moment, StatusMeaning}
use Rattle.engine_cli.specs.Status.{IsInputRefusal, IsBeforeWriting, IsDoneOrNoMemory, IsRefusedInput}
use Rattle.job_io.specs.declared.job_files.jobs.JobVerb.TheVariants as verb

-- What `run` and `resume` leave, where `told` says whether it is told what disks hold, and `tells` holds of what is reported. They hand the opens
-- the names of the job's file, of the job's texts, of its atoms, of its store and of the order's file at most, in turn. Until the store is opened
-- nothing changes but what is read, until it is written no name gives anything else, and no name but the order's file ever does.
pub record IsRun (told : Bool) (asked : JobVerb) (file : List ℕ) (report : Bool) (before now : Moment) (tells : List ℕ → Type 0) (lists : CallLists) (status : Status) : Type 0 where
  pub says : StatusMeaning told asked file report before now tells lists status
  pub complete : IsSound asked file before now → IsDoneOrNoMemory status
  pub complete_on_store : IsSoundOnStore told asked file before now → IsDoneOrNoMemory status
  pub sources : RunOpens asked before.files now.files file
  pub refused : IsRefusedInput status → OpensInOrder before.files.sources.names now.files.sources.names (names_of asked before.files file)
  pub sinks : WriteOpens asked before.files now.files file
  pub early : IsInputRefusal status → ChangesSources before.files now.files
  pub unwritten : IsBeforeWriting status → (status ≢ NoMemory) → now.files.sinks ≡ before.files.sinks
  pub kept : IsBeforeWriting status → now.files.contents ≡ before.files.contents
  pub others : (name : List ℕ) → (IsWrittenName asked before.files file name → ⊥) → now.files.contents name ≡ before.files.contents name
  pub store : UsesStore asked file before.files now.files

-- What `make` leaves: it writes two files and nothing else. Each of them is what it was, or holds a front of its text.
pub record IsMaking (prefix : List ℕ) (plan : MakePlan) (before now : FilesState) (status : Status) : Type 0 where
  pub says : Makes plan prefix before now status
  pub vertices : LeavesFront plan Vertices before now (vertices_name prefix)
  pub edges : LeavesFront plan Edges before now (edges_name prefix)
  pub writes : WritesFiles (vertices_name prefix ∷ edges_name prefix ∷ []) before now
  pub complete : (Rose before.sinks.faults now.sinks.faults → ⊥) → IsDoneOrNoMemory status

-- What `cut` leaves: it writes the index and the atoms and nothing else. Each of them is what it was, or holds a front of its
-- bytes. It hands the opens the names of the job's file and of the job's texts at most, and then those of these files, in turn.
pub record IsCutting (file : List ℕ) (before now : FilesState) (status : Status) : Type 0 where
  pub says : Cuts file before now status
  pub fronts : LeavesCutFronts file before now
  pub sources : OpensInOrder before.sources.names now.sources.names (names_of verb.Cut before file)
  pub sinks : WriteOpens verb.Cut before now file
  pub early : IsInputRefusal status → ChangesSources before now
  pub others : (name : List ℕ) → (IsWrittenName verb.Cut before file name → ⊥) → now.contents name ≡ before.contents name
  pub complete : IsReadable verb.Cut before file → (Rose before.sources.faults now.sources.faults → ⊥) → (Rose before.sinks.faults now.sinks.faults → ⊥) → IsDoneOrNoMemory status

-- What `init` leaves: it opens the job's store as a disk and writes it, and no other file. No disk that has bytes changes. It hands the
-- opens the names of the job's file and of the job's texts at most, in turn, and then that of the store.
pub record IsInit (told : Bool) (file : List ℕ) (before now : FilesState) (status : Status) : Type 0 where
  pub says : MakesStore told file before now status
  pub kept : KeepsFilledDisks told before now
  pub sources : OpensInOrder before.sources.names now.sources.names (names_of verb.Init before file)
  pub disks : HandsStore verb.Init before now file
  pub frame : now ≡ record before { sources = now.sources; pasts = now.pasts; disks = now.disks }
  pub early : IsInputRefusal status → ChangesSources before now
  pub others : (name : List ℕ) → (IsStoreName verb.Init before file name → ⊥) → now.pasts name ≡ before.pasts name
  pub later : before.disks.faults ≤ now.disks.faults
  pub complete : (input : IsReadable verb.Init before file) → HasEmptyStore told before input.job.fields → (Rose before.sources.faults now.sources.faults → ⊥) → (Rose before.disks.faults now.disks.faults → ⊥)
      → IsDoneOrNoMemory status

-- what the words' verb leaves, where `told` says whether it is told what disks hold
abbrev pub IsCall : Bool → Words → Moment → Moment → (List ℕ → Type 0) → Ended → Type 0
IsCall told (Run file report) before now tells ended = IsRun told verb.Run file report before now tells (lists_of_call ended) ended.status
IsCall told (Resume file report) before now tells ended = IsRun told verb.Resume file report before now tells (lists_of_call ended) ended.status
IsCall told (Make prefix plan) before now tells ended = IsMaking prefix plan before.files now.files ended.status × (lists_of_call ended ≡ no_lists)
IsCall told (Cut file) before now tells ended = IsCutting file before.files now.files ended.status × (lists_of_call ended ≡ no_lists)
IsCall told (Init file) before now tells ended = IsInit told file before.files now.files ended.status × (lists_of_call ended ≡ no_lists)

-- the verbs that tell nothing where they did their work
abbrev pub IsQuiet : Words → Type 0
IsQuiet (Run file report) = report ≡ false
IsQuiet (Resume file report) = report ≡ false
IsQuiet (Make prefix plan) = ⊤
IsQuiet (Cut file) = ⊤
IsQuiet (Init file) = ⊤
