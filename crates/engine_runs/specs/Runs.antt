-- How a run with a store begins, and what it is as it ends.
pub use Rattle.engine_runs.specs.finish.Ends.{IsEndedRun}
pub use Rattle.engine_runs.specs.start.Starting.{ArePlacedFor, machine_plan, run_shared}
pub use Rattle.placement.specs.plans.Plans.{CanBeCut, IsInRange}
pub use Rattle.placement.specs.plans.Plays.{IsPlacement}
pub use Rattle.graph_text.specs.order_text.Orders.{IsEntryOf}
pub use Rattle.call_laws.specs.call_budgets.Enough.{BoundsSteps}
pub use Rattle.engine_runs.specs.answers.Ends.{half_of}
pub use Rattle.engine_runs.specs.declared.answers.runs.MachinePlan.{MachinePlan}
pub use Rattle.engine_runs.specs.declared.answers.runs.StoredPlan.{StoredPlan}
pub use Rattle.engine_runs.specs.answers.Images.{HoldsGood, IsGoodStore, KeepsGood, stored_order}
pub use Rattle.engine_runs.specs.answers.Runs.{IsStoredRun, RunLists, Shared, lists_of}
pub use Rattle.call_laws.specs.whole_calls.Following.{AreJobFailures}
use Rattle.std.specs.Prelude.{Bool, Err, List, Ok, Result, length, suc, true, ⊤, ℕ, ◌*◌, ◌++◌, ◌+◌, ◌/◌, ◌<◌, ◌^◌, ◌≡◌, ◌≤◌, ◌⊎◌}
use Rattle.graph_atoms.specs.declared.atom_gather.cuts.Cut.{Cut}
use Rattle.gl_base.specs.declared.entries.Entry.{Entry}
use Rattle.gl_base.specs.declared.jobs.FailureAt.{FailureAt}
use Rattle.call_laws.specs.call_answers.Traces.{ListsOfTrace}
use Rattle.cluster_laws.specs.cluster_model.Events.{Event}
use Rattle.graph_core.specs.DataGraph.{DataGraph, size}
use Rattle.placed_machines.specs.declared.placing.Places.{Places}
use Rattle.store.specs.snap_journal.Disks.{DiskPast, Rose}
use Rattle.store.specs.declared.snap_journal.faults.JournalFault.{JournalFault}
use Rattle.store.specs.declared.snap_journal.faults.JournalFault.TheVariants as fault
use Rattle.store.specs.declared.store_format.faults.StoreFault.TheVariants.{BadByte}
use Rattle.engine_runs.specs.declared.answers.runs.RunInput.{RunInput}
use Rattle.engine_runs.specs.declared.answers.runs.StoredEnd.{StoredEnd}
use Rattle.engine_runs.specs.declared.answers.runs.StoredEnd.TheVariants as end
use Rattle.engine_runs.specs.declared.answers.runs.StoredRun.{StoredRun}
use Rattle.engine_runs.specs.Calls.{AreSnapLines, CallOpening, Cluster, TraceView, AnyMachine, Header, IsCallAt, IsTraceNow, IsAnyMachineOf, IsKnownAt, IsRunAt, JournalState, PauseGives, Setting, orders_behind, shared_of, snapshots_in}
use Rattle.engine_runs.specs.declared.calls.StoredCall.{StoredCall}
use Rattle.update_api.specs.Updates.{Update}
use Rattle.call_laws.specs.whole_calls.Opened.{IsTraceOfCall}

-- In this setting the call has begun, resumed or not as this says, with so many tickets, from the store that the journal had.
pub record HasCallBegun {D P : Type 0} (meaning : P → Update) (past : D → DiskPast) (call : StoredCall P) (journal after : JournalState D) (resumed : Bool) (budget : ℕ) (st : Setting) : Type 0 where
  pub opening : CallOpening
  pub resumed_is : opening.resumed ≡ resumed
  pub tickets : opening.first.left ≡ budget
  pub at : IsCallAt meaning past call after (snapshots_in past journal) (past journal.disk) st opening

-- The store began with these snapshots and got others, of which the call has a line each; and the run ends so, where the course paused.
pub record IsEndAt {P : Type 0} (meaning : P → Update) (call : StoredCall P) (header : Header) (start added : List (List ℕ)) (st : Setting) (o : CallOpening) (how : StoredEnd) : Type 0 where
  pub lines : AreSnapLines (shared_of st call.trace.failures) (suc (length start)) (orders_behind (stored_order start) added) call.snapshots.items
  pub paused : TraceView (AnyMachine P)
  pub known : IsKnownAt meaning paused call header start (start ++ added) st o
  pub failures : paused.failures ≡ call.trace.failures
  pub now : IsTraceNow (IsAnyMachineOf meaning) call.trace st o known.was.events known.was.cluster
  pub gives : PauseGives call.saves_end meaning paused (start ++ added) st o known.was.cluster how

-- the run is one with a store that began with these snapshots, and got these others, and its end is saved or not
abbrev pub IsRunSo : Bool → Setting → List FailureAt → CallOpening → List (List ℕ) → List (List ℕ) → StoredRun → Type 0
IsRunSo saves st failures o start added run =
    IsStoredRun saves (shared_of st failures) st.machines st.window o.first.left (length start) (stored_order start) o.resumed (orders_behind (stored_order start) added) run

-- these events are a course of the call, which led to this cluster, and these are its lists
abbrev pub HasTraceOf : List FailureAt → Setting → CallOpening → List Event → Cluster → RunLists → Type 0
HasTraceOf failures st o events c lists =
    IsTraceOfCall st failures o.kept o.resumed o.base o.first events c × ListsOfTrace st failures o.base o.first events c lists

-- The machines that ran are those that the plan asks for: the graph was placed for it, so that engine, pipeline and window of their cluster are the plan's,
-- and these are the lists of a course of that cluster.
pub record IsRunBy (g : DataGraph) (cut : Cut) (program : Update) (plan : MachinePlan) (failures : List FailureAt) (lists : RunLists) : Type 0 where
  pub places : Places
  pub placed : ArePlacedFor g cut plan places
  pub setting : Setting
  pub runs : IsRunAt g program places setting
  pub opening : CallOpening
  pub events : List Event
  pub cluster : Cluster
  pub trace : HasTraceOf failures setting opening events cluster lists

-- what a run shares on this graph, with this owner of each vertex
abbrev pub owned_shared : DataGraph → Update → (ℕ → ℕ) → List FailureAt → Shared
owned_shared g program owner failures = record { graph = g; program = program; owner = owner; failures = failures }

-- the same of what the run is made from
abbrev pub input_shared : RunInput → Update → (ℕ → ℕ) → Shared
input_shared input program owner = owned_shared input.graph.now program owner input.failures.now

-- so of each owner of the vertices that is the placement of a run made from this, and by which a store with these snapshots is good
abbrev pub FromGoodStore : RunInput → Update → Header → List (List ℕ) → ((ℕ → ℕ) → Type 0) → Type 0
FromGoodStore input program header bodies Holds =
    (owner : ℕ → ℕ) → IsPlacement input.graph.now input.cut.now input.plan.run.machines owner → IsGoodStore (input_shared input program owner) header bodies → Holds owner

-- For each owner that is the placement and by which the store was good: whatever crashes left and leave is good, with the snapshots that were added.
abbrev pub KeepsByOwner : {D : Type 0} → (D → DiskPast) → DataGraph → Update → Cut → ℕ → List FailureAt → JournalState D → JournalState D → Type 0
KeepsByOwner past g program cut machines failures journal after =
    (owner : ℕ → ℕ) → IsPlacement g cut machines owner → IsGoodStore (owned_shared g program owner failures) journal.header (snapshots_in past journal) →
    (snapshots : List (List Entry)) × KeepsGood (owned_shared g program owner failures) journal.header (snapshots_in past journal) snapshots (past journal.disk) (past after.disk)

-- Why no run was made. There was a fault of the disk before the run began, and the disk is as it was; or memory ran out, or the store or a record
-- for it was not as it should be, and the disk is as it was, or `kept` holds.
abbrev pub RunErrorCause : Type 0 → DiskPast → DiskPast → ℕ → ℕ → Type 0 → JournalFault → Type 0
RunErrorCause told old new before now kept fault.DiskFault = Rose before now × (told → new ≡ old)
RunErrorCause told old new before now kept (fault.BadStore why) = told → (new ≡ old) ⊎ kept
RunErrorCause told old new before now kept (fault.Full stored bytes) = ⊥
RunErrorCause told old new before now kept fault.Failed = ⊥
RunErrorCause told old new before now kept fault.NoMemory = told → (new ≡ old) ⊎ kept

-- why a call did not begin; `failed` says whether an earlier call had found a fault of the disk
abbrev pub BeginErrorCause : Bool → ℕ → ℕ → JournalFault → Type 0
BeginErrorCause failed before now fault.DiskFault = Rose before now
BeginErrorCause failed before now (fault.BadStore why) = ⊤
BeginErrorCause failed before now (fault.Full stored bytes) = ⊥
BeginErrorCause failed before now fault.Failed = failed ≡ true
BeginErrorCause failed before now fault.NoMemory = ⊤

-- why it did not, by why it did not start: a store of so many bytes that is too long is refused
abbrev pub refused_by : JournalFault → ℕ → JournalFault
refused_by (fault.Full stored bytes) length = fault.BadStore (BadByte length)
refused_by why length = why

-- The store, which has so many snapshots and bytes, has room for a run with this plan and so many failures: for a snapshot for each half of the window
-- that goes into the budget, and for one more, with all updates and restarts that they may bring.
pub record HasRoomForRun (g : DataGraph) (plan : StoredPlan) (failures stored bytes : ℕ) : Type 0 where
  pub half : 0 < half_of plan.window
  pub few : stored + (plan.run.budget / half_of plan.window + 1) ≤ 4096
  pub short : bytes + 16 * (plan.run.budget + failures + 1) + (plan.run.budget / half_of plan.window + 1) * (17 + 8 * plan.run.machines + 12 * size g + 12 * length g.edges) ≤ 2 ^ 30

-- the run was made and has finished, or memory ran out
abbrev pub IsFinishedOrNoMemory : Result StoredRun JournalFault → Type 0
IsFinishedOrNoMemory (Ok run) = run.end ≡ end.Finished
IsFinishedOrNoMemory (Err why) = why ≡ fault.NoMemory
