-- How a call begins from a base of a store.
pub use Rattle.cluster_step.specs.trace.Traces.{BaseView, CallOpening, Cluster, TraceView, GoesBackWith, IsTraceNow, IsSnapSetting, Setting, StartsCall, StoreView, newest_setting}
pub use Rattle.cluster_step.specs.clusters.Clusters.{BeginsWith}
pub use Rattle.recovery.specs.opened_store.Opening.{IsGoodBase, base_opened, cluster_before, shared_of, ticket_above}
pub use Rattle.coordinator.specs.coord_core.Coordinators.{IsEngineOf}
pub use Rattle.coordinator.specs.declared.coord_core.steps.Engine.{Engine}
pub use Rattle.placed_machines.specs.Beginning.{AreAnyMachinesOf, IsAnyMachineOf, IsSavingRunOf, RunsBy}
pub use Rattle.placed_machines.specs.declared.any_machine.machines.AnyMachine.{AnyMachine}
use Rattle.std.specs.Prelude.{Bool, None, Option, Some, length, ℕ}
use Rattle.gl_base.specs.declared.snapshots.Base.{Base}
use Rattle.graph_core.specs.DataGraph.{size}

-- the store, where there is a window, so that snapshots are taken
abbrev pub if_taken : {S : Type 0} → Option ℕ → S → Option S
if_taken None store = None
if_taken (Some window) store = Some store

-- the store of this base
abbrev pub store_from : Setting → Base → StoreView
store_from st base = record { vertices = size st.graph; edges = length st.graph.edges; newest = base.number; store_end = base.length }

-- the call opens with it, and has so many tickets
abbrev pub opening_from : Setting → Bool → Base → ℕ → CallOpening
opening_from st resumed base left =
    record {
      kept = base.order.items;
      resumed = resumed;
      base = base_opened resumed base;
      first = cluster_before st (ticket_above base.order.items) left base.length;
    }
