-- How a call starts from what the journal of a store has.
pub use Rattle.cluster_step.specs.trace.Traces.{CallOpening, TraceView, IsTraceNow, OpensCall, Setting, first_cluster}
pub use Rattle.recovery.specs.restarts.Missing.{Begins}
pub use Rattle.placement.specs.plans.Plans.{CanBeCut, IsInRange}
pub use Rattle.gl_base.specs.declared.snapshots.Base.{Base}
pub use Rattle.placement.specs.plans.Plays.{IsPlacement}
pub use Rattle.placed_machines.specs.Beginning.{AreColoursFor, ArePlacesOf, IsBaseFor, IsAnyMachineOf, IsRunAt, placed_owner}
pub use Rattle.placed_machines.specs.declared.any_machine.machines.AnyMachine.{AnyMachine}
pub use Rattle.recovery.specs.GoodStores.{IsGoodStore}
pub use Rattle.recovery.specs.Recovered.{IsHeaderOf}
pub use Rattle.engine_runs.specs.attempt_machines.Beginning.{opening_from, shared_of}
pub use Rattle.store.specs.snap_journal.Journals.{JournalState, snapshots_in}
pub use Rattle.engine_runs.specs.stores.Stores.{IsKnownTrace}
pub use Rattle.call_laws.specs.whole_calls.Following.{AreJobFailures}
use Rattle.std.specs.Prelude.{All, Bool, List, Some, [], false, if◌then◌else◌, length, true, ℕ, ◌+◌, ◌≡◌, ◌≤◌}
use Rattle.engine_runs.specs.declared.start.starting.Started.{Started}
use Rattle.graph_atoms.specs.declared.atom_gather.cuts.Cut.{Cut}
use Rattle.cluster_laws.specs.cluster_runs.Attempts.{Shared}
use Rattle.coordinator.specs.declared.coord_core.steps.Engine.{Engine}
use Rattle.coordinator.specs.declared.coord_core.steps.Engine.TheVariants as by
use Rattle.gl_base.specs.declared.jobs.EngineKind.{EngineKind}
use Rattle.gl_base.specs.declared.jobs.EngineKind.TheVariants.{Chromatic, Locking}
use Rattle.gl_base.specs.declared.jobs.FailureAt.{FailureAt}
use Rattle.graph_core.specs.DataGraph.{DataGraph}
use Rattle.placed_machines.specs.declared.placing.Places.{Places}
use Rattle.recovery.specs.Journals.{records_size}
use Rattle.store.specs.snap_journal.Disks.{DiskPast, Rose}
use Rattle.store.specs.declared.snap_journal.faults.JournalFault.{JournalFault}
use Rattle.store.specs.declared.snap_journal.faults.JournalFault.TheVariants.{BadStore, DiskFault, Failed, Full, NoMemory}
use Rattle.store.specs.declared.store_format.header.Header.{Header}
use Rattle.engine_runs.specs.declared.answers.runs.MachinePlan.{MachinePlan}
use Rattle.engine_runs.specs.declared.answers.runs.StoredPlan.{StoredPlan}
use Rattle.update_api.specs.Updates.{Update}

-- how many bytes more a store needs where the call resumes: those of a restart
abbrev pub restart_room : Bool → ℕ
restart_room resumed = if resumed then 16 else 0

-- Updates are kept apart as this asks: by locks, with as many scopes of a machine in flight at most; or by these colours, of which none is above
-- the greatest.
abbrev pub IsEngineAsked : EngineKind → ℕ → Engine → ℕ → List ℕ → Type 0
IsEngineAsked Locking asked engine pipeline colours = (engine ≡ by.Locking) × (pipeline ≡ asked)
IsEngineAsked Chromatic asked engine pipeline colours = (greatest : ℕ) × (engine ≡ by.Chromatic greatest) × All (λ colour. colour ≤ greatest) colours

-- how the machines of a run with a store are made
abbrev pub machine_plan : StoredPlan → MachinePlan
machine_plan plan = record { run = plan.run; engine = plan.engine; window = Some plan.window }

-- The graph is cut so and placed as the plan says, and attempts run there as it says.
pub record ArePlacedFor (g : DataGraph) (cut : Cut) (plan : MachinePlan) (places : Places) : Type 0 where
  pub are : ArePlacesOf g plan.run.machines places
  pub placement : IsPlacement g cut plan.run.machines (placed_owner places.of.items places.owner.items)
  pub window : places.run.window ≡ plan.window
  pub engine : IsEngineAsked plan.engine plan.run.pipeline places.run.engine places.run.pipeline places.colours.items

-- what the attempts of a call share that runs this program on this graph, placed so
abbrev pub run_shared : DataGraph → Update → Places → List FailureAt → Shared
run_shared g program places failures = record { graph = g; program = program; owner = placed_owner places.of.items places.owner.items; failures = failures }

-- In this setting the call has opened from a store with these snapshots, resumed or not as this says, with so many tickets; and what is known of
-- the store and of the course is so as it starts.
pub record HasStarted {P : Type 0} (meaning : P → Update) (started : Started P) (header : Header) (bodies : List (List ℕ)) (resumed : Bool) (budget : ℕ) (st : Setting) : Type 0 where
  pub opening : CallOpening
  pub opens : OpensCall (IsAnyMachineOf meaning) started.trace.start started.trace.failures st opening
  pub resumed_is : opening.resumed ≡ resumed
  pub tickets : opening.first.left ≡ budget
  pub number : opening.base.number ≡ length bodies
  pub known : IsKnownTrace (IsAnyMachineOf meaning) started.trace header bodies bodies [] started.restarts.stored.items started.restarts.front.items started.order.items st opening

-- Why no call started. `before` and `now` are how often the disk had failed; and a restart has so many bytes, for which the store has no place
-- where it is too long. Where a disk tells what it holds, its bytes are a store.
abbrev pub StartErrorCause : {D : Type 0} → (D → DiskPast) → Type 0 → ℕ → JournalState D → JournalState D → ℕ → ℕ → JournalFault → Type 0
StartErrorCause past told more old new before now DiskFault = (old.failed ≡ false) × (new.failed ≡ true) × Rose before now
StartErrorCause past told more old new before now (BadStore fault) = (¬ told) × (old.failed ≡ false) × (new.failed ≡ false)
StartErrorCause past told more old new before now (Full stored bytes) =
    (old.failed ≡ false) × (new.failed ≡ false) × (stored ≡ old.count) × (told → bytes ≡ 65 + records_size (snapshots_in past old)) × (4294967296 ≤ bytes + more)
StartErrorCause past told more old new before now Failed = (old.failed ≡ true) × (new.failed ≡ true)
StartErrorCause past told more old new before now NoMemory = (old.failed ≡ false) × (new.failed ≡ false)
