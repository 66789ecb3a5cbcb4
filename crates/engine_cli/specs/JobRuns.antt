-- Runs of a job: without a store, and on the one that it names.
pub use Rattle.recovery.specs.Journals.{records_size, stored_in, stored_order}
pub use Rattle.engine_runs.specs.answers.Images.{HoldsGood, orders_behind}
pub use Rattle.engine_runs.specs.answers.Runs.{IsRunWithFailures, IsStoredRun, Shared, lists_of}
pub use Rattle.engine_runs.specs.answers.Unstored.{HasRestartsFirst}
pub use Rattle.engine_runs.specs.Runs.{BoundsSteps, HasRoomForRun, IsRunBy}
pub use Rattle.engine_cli.specs.Ends.{IsEndAlone, left_at}
pub use Rattle.engine_cli.specs.Pairings.{HasEnough, RunsOfPairs}
use Rattle.std.specs.Prelude.{◌≡◌, ◌≤◌, ◌+◌, ◌++◌, ◌∷◌, ℕ, Bool, true, false, List, [], length, sum_by, Option, None, Some}
use Rattle.graph_atoms.specs.declared.atom_gather.cuts.Cut.{Cut}
use Rattle.gl_base.specs.declared.entries.Entry.{Entry}
use Rattle.gl_base.specs.declared.jobs.FailureAt.{FailureAt}
use Rattle.gl_base.specs.declared.numbers.Vertex.{Vertex}
use Rattle.gl_outside.specs.Disk.{DiskPast, IsImage, LeavesOnly}
use Rattle.gl_outside.specs.FilesState.{FilesState}
use Rattle.call_laws.specs.call_answers.Ends.{SpendsRun}
use Rattle.graph_core.specs.DataGraph.{DataGraph, size}
use Rattle.job_io.specs.job_config.Fields.{JobFields}
use Rattle.job_io.specs.job_config.Jobs.{JobSayings}
use Rattle.job_io.specs.job_files.Atoms.{IsCutOf}
use Rattle.job_io.specs.job_files.JobTexts.{DescribeJobGraph, HasStart}
use Rattle.job_io.specs.declared.job_files.jobs.JobVerb.{JobVerb}
use Rattle.job_io.specs.declared.job_files.jobs.JobVerb.TheVariants as verb
use Rattle.placement.specs.plans.Plays.{IsPlacement}
use Rattle.placement.specs.declared.plans.runs.RunPlan.{RunPlan}
use Rattle.job_io.specs.job_stores.JobHeaders.{header_for}
use Rattle.job_io.specs.job_stores.NewStores.{IfDisksTold}
use Rattle.seq_run.specs.Orders.{IsFinished, replay}
use Rattle.seq_run.specs.Runs.{AreNumbers}
use Rattle.store.specs.store_format.Stores.{DecodesTo}
use Rattle.store.specs.declared.store_format.header.Header.{Header}
use Rattle.engine_runs.specs.declared.answers.runs.SnapLine.{SnapLine}
use Rattle.engine_runs.specs.declared.answers.runs.StoredEnd.{StoredEnd}
use Rattle.engine_runs.specs.declared.answers.runs.StoredEnd.TheVariants.{Finished, Full, Spent}
use Rattle.engine_runs.specs.declared.answers.runs.MachinePlan.{MachinePlan}
use Rattle.engine_runs.specs.declared.answers.runs.StoredPlan.{StoredPlan}
use Rattle.engine_runs.specs.declared.answers.runs.StoredRun.{StoredRun}
use Rattle.engine_cli.specs.declared.ended.Ended.{Ended}
use Rattle.engine_cli.specs.Plays.{AreResults, CountsByMachine, HasEdgesFor, RunsTo, update_of, writes_neighbours}

-- ---- what a call leaves of its run

-- The lists: the order of its updates, those that recoveries took away, how many updates each machine made, the places of the failures that
-- fired, and the snapshots that were acknowledged.
pub record CallLists : Type 0 where
  pub order : List Entry
  pub lost : List Entry
  pub done : List ℕ
  pub fired : List ℕ
  pub snapshots : List SnapLine

-- all of them are empty
abbrev pub no_lists : CallLists
no_lists = record { order = []; lost = []; done = []; fired = []; snapshots = [] }

abbrev pub lists_of_run : StoredRun → CallLists
lists_of_run run = record { order = run.order.items; lost = run.lost.items; done = run.done.items; fired = run.fired.items; snapshots = run.snapshots.items }

abbrev pub lists_of_call : Ended → CallLists
lists_of_call ended = record { order = ended.order.items; lost = ended.lost.items; done = ended.done.items; fired = ended.fired.items; snapshots = ended.snapshots.items }

-- ---- what is enough for a run of a job

-- how the job is run
abbrev pub plan_for : JobSayings → RunPlan
plan_for job = record { machines = job.fields.machines; pipeline = job.fields.pipeline; budget = job.fields.budget }

-- and on its store, with its window and its end saved
abbrev pub store_plan : JobSayings → StoredPlan
store_plan job = record { run = plan_for job; window = job.fields.window; engine = job.fields.engine; saves_end = true }

-- and on machines with this window, or on ones that take no snapshots
abbrev pub machines_for : JobSayings → Option ℕ → MachinePlan
machines_for job window = record { run = plan_for job; engine = job.fields.engine; window = window }

-- The machines that ran are of the engine that the job names, with its pipeline: the run has the lists of a course of such a cluster, with this window or without
-- one.
abbrev pub RunsAsNamed : JobSayings → DataGraph → Cut → Option ℕ → StoredRun → Type 0
RunsAsNamed job g cut window run = IsRunBy g cut (update_of job.fields.algorithm job.fields.source) (machines_for job window) job.failures (lists_of run)

-- the store with these snapshots has room for the job's run on this graph
abbrev pub HasRoomForJob : JobSayings → DataGraph → List (List ℕ) → Type 0
HasRoomForJob job g opened = HasRoomForRun g (store_plan job) (length job.failures) (length opened) (65 + records_size opened)

-- ---- without a store

-- A run without a store, of a job that orders no failure, on a graph that is cut so. Its updates are counted by machine, no update is lost, no failure fires and no snapshot is taken; and where it left no
-- task, the numbers are what the algorithm is to find.
pub record RunsAlone (job : JobFields) (g : DataGraph) (cut : Cut) (run : StoredRun) : Type 0 where
  pub runs : RunsTo g (update_of job.algorithm job.source) cut job.machines job.budget run.order.items run.numbers.items (left_at run.end)
  pub ended : IsEndAlone run.end
  pub counts : CountsByMachine job.machines run.order.items run.done.items
  pub lost : run.lost.items ≡ []
  pub fired : run.fired.items ≡ []
  pub snapshots : run.snapshots.items ≡ []
  pub results : run.end ≡ Finished → AreResults job.algorithm job.source g run.numbers.items

-- what all attempts of a run of the job share, where the vertices have these owners
abbrev pub shared_by : JobSayings → DataGraph → (ℕ → ℕ) → Shared
shared_by job g owner =
    record { graph = g; program = update_of job.fields.algorithm job.fields.source; owner = owner; failures = job.failures }

-- A run with failures from the start, which none of them outlasts: it keeps to the budget, and its numbers are the replay of its order. All restarts of that stand before all its
-- updates: no snapshot lies before a restart, so that each attempt begins from the start. Where it left no task, the numbers are what the algorithm is to find; and else the budget is
-- spent, which was not enough.
pub record BeginsAgain (job : JobSayings) (shared : Shared) (run : StoredRun) : Type 0 where
  pub is : IsRunWithFailures shared job.fields.machines [] false 0 (lists_of run)
  pub again : HasRestartsFirst run.order.items
  pub few : sum_by (λ count. count) run.done.items ≤ job.fields.budget
  pub numbers_are : AreNumbers (size shared.graph) (replay shared.graph shared.program run.order.items).vertex run.numbers.items
  pub finished : run.end ≡ Finished → IsFinished shared.graph shared.program run.order.items
  pub results : run.end ≡ Finished → AreResults job.fields.algorithm job.fields.source shared.graph run.numbers.items
  pub spent : (left : Vertex) → run.end ≡ Spent left → SpendsRun shared job.fields.budget left.0 0 (lists_of run)
  pub enough : HasEnough job shared.graph → (left : Vertex) → run.end ≡ Spent left → ⊥

-- A run without a store in which machines fail as the job orders, on a graph that is cut so and placed. No snapshot is taken, so after each failure it begins again from the start.
pub record RunsThroughFailures (job : JobSayings) (g : DataGraph) (cut : Cut) (run : StoredRun) : Type 0 where
  pub placed : (owner : ℕ → ℕ) × IsPlacement g cut job.fields.machines owner
  pub goes : (owner : ℕ → ℕ) → IsPlacement g cut job.fields.machines owner → BeginsAgain job (shared_by job g owner) run
  pub ended : IsEndAlone run.end
  pub snapshots : run.snapshots.items ≡ []

-- its machines are those that the job names, and take no snapshots
abbrev pub HasNamedMachines : JobSayings → DataGraph → Cut → StoredRun → Type 0
HasNamedMachines job g cut run = RunsAsNamed job g cut None run

-- a run without a store on a graph that is cut so, where the job orders these failures
abbrev pub RunsWithoutStore : JobSayings → DataGraph → Cut → StoredRun → List FailureAt → Type 0
RunsWithoutStore job g cut run [] = RunsAlone job.fields g cut run
RunsWithoutStore job g cut run (failure ∷ failures) = RunsThroughFailures job g cut run

-- ---- on a store

-- whatever a crash would leave of the disk is a good store that begins with these snapshots
abbrev pub AreGoodImages : Shared → Header → List (List ℕ) → DiskPast → Type 0
AreGoodImages shared header front past = (image : List ℕ) → IsImage past.now image → HoldsGood shared header front image

-- The disk has a store of the job, on a graph that is cut so and whose vertices have these owners by its placement: whatever a crash would leave is a good store for them that begins with
-- these snapshots.
pub record IsStoreOfJob (job : JobSayings) (g : DataGraph) (cut : Cut) (owner : ℕ → ℕ) (front : List (List ℕ)) (past : DiskPast) : Type 0 where
  pub placed : IsPlacement g cut job.fields.machines owner
  pub images : AreGoodImages (shared_by job g owner) (header_for job.fields g) front past

-- They name the same algorithm, source and machines. All else that they say may differ: atoms, failures, engine, window, pipeline and budget, and names of files.
pub record AreAlikeJobs (one other : JobSayings) : Type 0 where
  pub algorithm : one.fields.algorithm ≡ other.fields.algorithm
  pub source : one.fields.source ≡ other.fields.source
  pub machines : one.fields.machines ≡ other.fields.machines

-- a store of one job is one of the other, on each graph that is cut so
abbrev pub HaveSameStores : JobSayings → JobSayings → Type 0
HaveSameStores one other = (g : DataGraph) (cut : Cut) (owner : ℕ → ℕ) (front : List (List ℕ)) (past : DiskPast) → IsStoreOfJob one g cut owner front past → IsStoreOfJob other g cut owner front past

-- The store was found to have some snapshots as it was opened, and got others, whose orders are these. Whatever a crash left at any moment
-- of the call is a good store that begins with the front ones; and whatever one leaves as the call has ended has the opened ones and the others.
pub record KeepsStore (shared : Shared) (header : Header) (front opened : List (List ℕ)) (snapshots : List (List Entry)) (old new : DiskPast) : Type 0 where
  pub added : List (List ℕ)
  pub orders : orders_behind (stored_order opened) added ≡ snapshots
  pub any_moment : LeavesOnly old new (HoldsGood shared header front)
  pub at_end : (image : List ℕ) → IsImage new.now image → HoldsGood shared header (opened ++ added) image

-- A run that goes on from a store of the opened snapshots, resumed or not: it is one with failures that keeps to the window and ends as it says,
-- and the store keeps all that it had. Where it left no task, the numbers are what the algorithm is to find. It spends no budget that is enough, and
-- fills no store that has room for it.
pub record GoesOnFrom (job : JobSayings) (shared : Shared) (resumed : Bool) (header : Header) (front opened : List (List ℕ)) (old new : DiskPast) (run : StoredRun) : Type 0 where
  pub snapshots : List (List Entry)
  pub is : IsStoredRun true shared job.fields.machines job.fields.window job.fields.budget (length opened) (stored_order opened) resumed snapshots run
  pub keeps : KeepsStore shared header front opened snapshots old new
  pub results : run.end ≡ Finished → AreResults job.fields.algorithm job.fields.source shared.graph run.numbers.items
  pub enough : HasEnough job shared.graph → (left : Vertex) → run.end ≡ Spent left → ⊥
  pub roomy : HasRoomForJob job shared.graph opened → (stored bytes : ℕ) → run.end ≡ Full stored bytes → ⊥

-- the snapshots that the store of a job on this graph has by what its disk reads
abbrev pub snapshots_on : JobSayings → DataGraph → DiskPast → List (List ℕ)
snapshots_on job g past = stored_in (header_for job.fields g) past.now.seen

-- A run of the job on its store, on a graph that is cut so and placed. The bytes are those of a store for it, and those of one without snapshots unless the
-- run is resumed. If that was a store of the job as the call began, it is a run that goes on from it, of the machines that the job names. If it ended as the store has no room, that has so
-- many snapshots and bytes.
pub record RunsOnStore (resumed : Bool) (job : JobSayings) (g : DataGraph) (cut : Cut) (old new : DiskPast) (run : StoredRun) : Type 0 where
  pub stands : DecodesTo (header_for job.fields g) (snapshots_on job g old) old.now.seen
  pub fresh : resumed ≡ false → length (snapshots_on job g old) ≡ 0
  pub placed : (owner : ℕ → ℕ) × IsPlacement g cut job.fields.machines owner
  pub goes_on : (owner : ℕ → ℕ) (front : List (List ℕ)) → IsStoreOfJob job g cut owner front old
      → GoesOnFrom job (shared_by job g owner) resumed (header_for job.fields g) front (snapshots_on job g old) old new run
  pub machines : (owner : ℕ → ℕ) (front : List (List ℕ)) → IsStoreOfJob job g cut owner front old → RunsAsNamed job g cut (Some job.fields.window) run
  pub full : (stored bytes : ℕ) → run.end ≡ Full stored bytes → (stored ≡ length (snapshots_on job g new)) × (bytes ≡ 65 + records_size (snapshots_on job g new))

-- ---- either way

-- `resume` goes on from what the store has, and `run` begins with a store that has none
abbrev pub is_resumed : JobVerb → Bool
is_resumed verb.Run = false
is_resumed verb.Resume = true
is_resumed verb.Cut = false
is_resumed verb.Init = false

-- a run of the job without a store, whose updates write neighbours too or not
abbrev pub RunsUnstored : Bool → JobSayings → DataGraph → Cut → StoredRun → Type 0
RunsUnstored false job g cut run = RunsWithoutStore job g cut run job.failures × HasNamedMachines job g cut run
RunsUnstored true job g cut run = RunsOfPairs job g cut run

-- The run is one of the job on this graph, which is cut so, where the job names this store, if any, and `told` says whether it is told what disks hold. `new` is what
-- disks hold as it has ended.
abbrev pub RunsSo : Bool → JobVerb → FilesState → (List ℕ → DiskPast) → JobSayings → DataGraph → Cut → StoredRun → Option (List ℕ) → Type 0
RunsSo told asked old new job g cut run None = RunsUnstored (writes_neighbours job.fields.algorithm) job g cut run
RunsSo told asked old new job g cut run (Some name) = IfDisksTold told old (RunsOnStore (is_resumed asked) job g cut (old.pasts name) (new name) run)

-- The two texts tell a graph, which is cut as the job says and the files of its atoms tell, this run of the job was made on it and ended so, and its lists are those that the call leaves.
pub record MakesRun (told : Bool) (asked : JobVerb) (old : FilesState) (new : List ℕ → DiskPast) (job : JobSayings) (lists : CallLists) (end : StoredEnd) (vertices edges : List ℕ) : Type 0 where
  pub graph : DataGraph
  pub graph_is : DescribeJobGraph job.fields vertices edges graph
  pub start : HasStart job.fields.algorithm job.fields.source graph
  pub edges_fit : HasEdgesFor job.fields.algorithm graph
  pub cut : Cut
  pub cut_is : IsCutOf old job.fields graph cut
  pub run : StoredRun
  pub lists_are : lists ≡ lists_of_run run
  pub ended : run.end ≡ end
  pub runs : RunsSo told asked old new job graph cut run job.fields.store
