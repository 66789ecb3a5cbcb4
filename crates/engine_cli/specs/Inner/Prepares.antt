-- What reading a job and its graph and running it answers.
use Rattle.std.specs.Prelude.{◌≡◌, ◌≤◌, ◌⊎◌, ℕ, Bool, false, All, List, [], length, ⊤, Option, None, Some, Result, Ok, Err}
use Rattle.graph_atoms.specs.atom_gather.Cuts.{CanBeCut}
use Rattle.graph_atoms.specs.declared.atom_gather.cuts.Cut.{Cut}
use Rattle.gl_base.specs.declared.jobs.Algorithm.TheVariants.{Pairs}
use Rattle.gl_outside.specs.Faults.{Rose}
use Rattle.gl_outside.specs.FilesState.{FilesState}
use Rattle.graph_core.specs.DataGraph.{DataGraph, IsDataGraph, size}
use Rattle.job_io.specs.job_config.Ranges.{HasNumbers}
use Rattle.job_io.specs.job_config.Views.{job_view}
use Rattle.job_io.specs.job_files.Atoms.{HasAtoms, IsCutOf}
use Rattle.job_io.specs.job_files.JobTexts.{DescribeJobGraph, HasStart, OfTexts, SaysJob}
use Rattle.job_io.specs.declared.job_files.inputs.Input.{Input}
use Rattle.job_io.specs.declared.job_files.jobs.JobVerb.{JobVerb}
use Rattle.job_io.specs.declared.job_files.jobs.JobVerb.TheVariants as verb
use Rattle.job_io.specs.job_stores.NewStores.{UsesDisk}
use Rattle.job_io.specs.declared.job_stores.making.StoreError.{StoreError}
use Rattle.job_io.specs.declared.job_stores.making.StoreError.TheVariants as no_store
use Rattle.graph_text.specs.order_text.Orders.{IsEntryOf}
use Rattle.engine_runs.specs.declared.answers.runs.StoredEnd.{StoredEnd}
use Rattle.engine_runs.specs.declared.answers.runs.StoredEnd.TheVariants as end
use Rattle.engine_runs.specs.declared.answers.runs.StoredRun.{StoredRun}
use Rattle.call_laws.specs.whole_calls.Following.{AreJobFailures}
use Rattle.engine_cli.specs.declared.running.Prepared.{Prepared}
use Rattle.engine_cli.specs.declared.status.Status.{Status}
use Rattle.engine_cli.specs.declared.status.Status.TheVariants.{BudgetSpent, DiskFault, SnapshotsFull}
use Rattle.engine_cli.specs.Inner.Storing.{RunOnStoreErrorCause}
use Rattle.engine_cli.specs.JobRuns.{RunsSo, is_resumed}
use Rattle.engine_cli.specs.Plays.{HasEdgesFor, RunsByScopes}
use Rattle.engine_cli.specs.StatusMeanings.{Refuses}

-- a verb that runs a job
abbrev pub IsOfRun : JobVerb → Type 0
IsOfRun verb.Run = ⊤
IsOfRun verb.Resume = ⊤
IsOfRun verb.Cut = ⊥
IsOfRun verb.Init = ⊥

-- The job's numbers and failures are those that a job may have, its source is there, its edges are such as
-- the algorithm is of, whose updates write their vertex and its edges alone, and its graph can be cut so.
pub record IsRunnable (input : Input) : Type 0 where
  pub numbers : HasNumbers (job_view input.job).fields
  pub failures : AreJobFailures input.job.machines input.job.failures.items
  pub few : length input.job.failures.items ≤ 64
  pub graph : IsDataGraph input.graph
  pub start : HasStart input.job.algorithm input.job.source input.graph
  pub edges_fit : RunsByScopes input.job.algorithm input.graph
  pub cut : CanBeCut input.graph input.cut

-- The job is one of pairs without a store and failures, its numbers are those that a job may have, its edges have no direction, and its graph can be cut so.
pub record CanBeMatched (input : Input) : Type 0 where
  pub pairs : input.job.algorithm ≡ Pairs
  pub numbers : HasNumbers (job_view input.job).fields
  pub store : input.job.store ≡ None
  pub failures : input.job.failures.items ≡ []
  pub graph : IsDataGraph input.graph
  pub undirected : input.graph.directed ≡ false
  pub cut : CanBeCut input.graph input.cut

-- the job can be run, by one way or the other
abbrev pub CanRun : Input → Type 0
CanRun input = IsRunnable input ⊎ CanBeMatched input

-- there is a number for each vertex, and each update is of one
pub record IsPrintable (g : DataGraph) (run : StoredRun) : Type 0 where
  pub numbers : length run.numbers.items ≡ size g
  pub entries : All (IsEntryOf g) run.order.items

-- it is one of the job, and ended by a fault of the disk only where there was one
pub record IsMadeRun (told : Bool) (asked : JobVerb) (input : Input) (old new : FilesState) (run : StoredRun) : Type 0 where
  pub runs : RunsSo told asked old new.pasts (job_view input.job) input.graph input.cut run input.job.store
  pub fault : run.end ≡ end.DiskFault → Rose old.disks.faults new.disks.faults

-- why none was made, without a store or with this one
abbrev pub RunInputErrorCause : Bool → JobVerb → Input → FilesState → FilesState → Option (List ℕ) → StoreError → Type 0
RunInputErrorCause told asked input old new None why = why ≡ no_store.NoMemory
RunInputErrorCause told asked input old new (Some name) why = RunOnStoreErrorCause told (is_resumed asked) name input old new why

-- nothing changed, or what the use of this disk changes
abbrev pub UsesNamed : Option (List ℕ) → FilesState → FilesState → Type 0
UsesNamed None old new = new ≡ old
UsesNamed (Some name) old new = UsesDisk name old new

-- the job is that of the file, the graph is that of its two texts, and the run is one of the job on it; without a store no disk changed
pub record IsPreparedFrom (told : Bool) (asked : JobVerb) (old new : FilesState) (file : List ℕ) (prepared : Prepared) : Type 0 where
  pub job : SaysJob asked old file (job_view prepared.job)
  pub texts : OfTexts old (job_view prepared.job).fields (λ vertices edges. DescribeJobGraph (job_view prepared.job).fields vertices edges prepared.graph)
  pub atoms : HasAtoms old (job_view prepared.job).fields
  pub graph : IsDataGraph prepared.graph
  pub start : HasStart prepared.job.algorithm prepared.job.source prepared.graph
  pub edges_fit : HasEdgesFor prepared.job.algorithm prepared.graph
  pub cut : Cut
  pub cut_is : IsCutOf old (job_view prepared.job).fields prepared.graph cut
  pub runs : RunsSo told asked old new.pasts (job_view prepared.job) prepared.graph cut prepared.run prepared.job.store
  pub fault : prepared.run.end ≡ end.DiskFault → Rose old.disks.faults new.disks.faults
  pub printable : IsPrintable prepared.graph prepared.run
  pub alone : prepared.job.store ≡ None → new.pasts ≡ old.pasts

-- a run that was made; or why none was
abbrev pub IsPrepared : Bool → JobVerb → FilesState → FilesState → List ℕ → Result Prepared Status → Type 0
IsPrepared told asked old new file (Ok prepared) = IsPreparedFrom told asked old new file prepared
IsPrepared told asked old new file (Err status) = Refuses told asked file old new status

-- at most what is read changed, and disks
abbrev pub ChangesInput : FilesState → FilesState → Type 0
ChangesInput old new = new ≡ record old { sources = new.sources; pasts = new.pasts; disks = new.disks }

-- the status of a run that left a task
abbrev pub unfinished_status : StoredEnd → Option Status
unfinished_status end.Finished = None
unfinished_status (end.Spent left) = Some (BudgetSpent left)
unfinished_status (end.Full stored length) = Some (SnapshotsFull stored length)
unfinished_status end.DiskFault = Some DiskFault
