-- All machines of a call go back to what the store has.
pub use Rattle.engine_runs.specs.rollback.Failing.{Cluster, TraceView, InEachTrace, IsTraceNow, IsSameAttempt, Setting, has_reached, newest_setting}
pub use Rattle.cluster_step.specs.trace.Traces.{BaseView, CallOpening, GoesBackWith, StartsSaving, StoreView}
pub use Rattle.recovery.specs.restarts.Missing.{Begins, is_restart, restarts}
pub use Rattle.placed_machines.specs.Beginning.{ArePlacesOf, IsBaseFor, IsAnyMachineOf, IsRunAt}
pub use Rattle.placed_machines.specs.declared.any_machine.machines.AnyMachine.{AnyMachine}
pub use Rattle.engine_runs.specs.stores.Stores.{Header, IsKnownTrace, stored_order}
pub use Rattle.call_laws.specs.whole_calls.Lost.{TakesAway}
use Rattle.std.specs.Prelude.{Bool, List, Option, false, filter, length, true, ℕ, ◌+◌, ◌++◌, ◌<◌, ◌≡◌}
use Rattle.gl_base.specs.declared.entries.Entry.{Entry}
use Rattle.gl_base.specs.declared.snapshots.Base.{Base}
use Rattle.graph_core.specs.DataGraph.{size}
use Rattle.cluster_laws.specs.cluster_model.Events as law
use Rattle.coordinator.specs.declared.coord_core.steps.Engine.{Engine}
use Rattle.recovery.specs.Orders.{AreNumbers, Shared, replay}
use Rattle.store.specs.snap_journal.Disks.{Rose}
use Rattle.store.specs.declared.snap_journal.faults.JournalFault.{JournalFault}
use Rattle.store.specs.declared.snap_journal.faults.JournalFault.TheVariants.{BadStore, DiskFault, Failed, Full, NoMemory}
use Rattle.update_api.specs.Updates.{Update}

-- a machine has reached the count of a failure
abbrev pub HasReachedSome : {M : Type 0} → TraceView M → Setting → Cluster → Type 0
HasReachedSome v st c = (a : ℕ) × (a < st.machines) × (has_reached v.failures c a ≡ true)

-- Machines have failed, and each that reached the count of a failure has.
pub record HasFailures {M : Type 0} (v : TraceView M) (st : Setting) (c : Cluster) : Type 0 where
  pub running : c.stopped ≡ false
  pub some : 0 < law.failures_in st c
  pub each : (a : ℕ) → a < st.machines → has_reached v.failures c a ≡ true → (c.machine a).failed ≡ true

-- The base of a store of these snapshots, with these restarts behind its order: its numbers are the replay of that order.
pub record IsBaseBehind (shared : Shared) (header : Header) (bodies : List (List ℕ)) (missing : List Entry) (base : Base) : Type 0 where
  pub number : base.number ≡ length bodies
  pub order : base.order.items ≡ stored_order bodies ++ missing
  pub vertices : AreNumbers (size shared.graph) (replay shared.graph shared.program (stored_order bodies)).vertex base.values.items
  pub edges : AreNumbers (length shared.graph.edges) (replay shared.graph shared.program (stored_order bodies)).edge base.edges.items

-- With these machines, this engine, and this store or without one, the course may go back to this order. That takes away what is behind the lost updates before, and the next
-- attempt begins with these restarts, one more than before for each failure.
pub record RestartsFrom {P : Type 0} (meaning : P → Update) (v : TraceView (AnyMachine P)) (machines : List (AnyMachine P)) (engine : Engine) (store : Option StoreView) (order lost later before front : List Entry) (st : Setting) (o : CallOpening) (events : List law.Event) (c : Cluster) : Type 0 where
  pub to : BaseView
  pub back : GoesBackWith (IsAnyMachineOf meaning) v machines engine store st o events c to
  pub number : to.number ≡ c.coordinator.acknowledged
  pub order_is : to.order ≡ order
  pub gone : List Entry
  pub takes : TakesAway (newest_setting st o events) c to gone
  pub later_is : later ≡ lost ++ gone
  pub front_is : front ≡ filter is_restart to.order
  pub more : length front ≡ length before + law.failures_in st c

-- Why they didn't go back. `old` and `new` tell whether an earlier call had found a fault of the disk, and whether one has now; `full` says
-- that the store has no place for the restarts. Where a disk tells what it holds, its bytes are a store.
abbrev pub GoBackErrorCause : Type 0 → Type 0 → Bool → Bool → ℕ → ℕ → JournalFault → Type 0
GoBackErrorCause told full old new before now DiskFault = (old ≡ false) × (new ≡ true) × Rose before now
GoBackErrorCause told full old new before now (BadStore fault) = (¬ told) × (old ≡ false) × (new ≡ false)
GoBackErrorCause told full old new before now (Full stored bytes) = full × (old ≡ false) × (new ≡ false)
GoBackErrorCause told full old new before now Failed = (old ≡ true) × (new ≡ true)
GoBackErrorCause told full old new before now NoMemory = new ≡ old
