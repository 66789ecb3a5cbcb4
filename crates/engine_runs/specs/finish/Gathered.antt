-- The lists of a call, gathered from its machines.
pub use Rattle.call_laws.specs.call_answers.Answers.{RunLists, reached_places}
pub use Rattle.call_laws.specs.call_answers.Traces.{AreLostIn, IsMerge, ListsOfTrace, all_logged, machine_logs}
pub use Rattle.cluster_step.specs.drive.Pauses.{HasFlaggedTask}
pub use Rattle.cluster_step.specs.trace.Traces.{CallOpening, Cluster, TraceView, InEachTrace, IsTraceNow, Machine, Setting, first_cluster, first_setting}
pub use Rattle.cluster_laws.specs.cluster_model.Events.{Event}
pub use Rattle.graph_text.specs.order_text.Orders.{IsEntryOf}
pub use Rattle.placed_machines.specs.Beginning.{ArePlacesOf, IsAnyMachineOf, placed_owner}
pub use Rattle.seq_run.specs.Runs.{AreNumbers}
pub use Rattle.coordinator.specs.machine_api.Promises.{OfEach}
use Rattle.std.specs.Prelude.{List, true, ℕ, ◌<◌, ◌≡◌}
use Rattle.engine_runs.specs.declared.finish.gathering.CallLists.{CallLists}
use Rattle.gl_base.specs.declared.entries.Entry.{Entry}
use Rattle.gl_base.specs.declared.jobs.FailureAt.{FailureAt}
use Rattle.graph_core.specs.DataGraph.{DataGraph, size}
use Rattle.placed_machines.specs.declared.placing.Places.{Places}
use Rattle.seq_run.specs.Orders.{replay}

-- the lists of the call, as a run has them, with the updates that failures took away
abbrev pub gathered_lists : List Entry → CallLists → RunLists
gathered_lists lost lists = record { order = lists.order.items; lost = lost; done = lists.done.items; fired = lists.fired.items }

-- The course is one on this graph, placed so; its newest attempt began with this order, and its recoveries took these updates away.
pub record GathersFrom (g : DataGraph) (places : Places) (front lost : List Entry) (st : Setting) (o : CallOpening) (events : List Event) (c : Cluster) : Type 0 where
  pub graph : st.graph ≡ g
  pub owners : (v : ℕ) → v < size g → st.owner v ≡ placed_owner places.of.items places.owner.items v
  pub base : c.base.order ≡ front
  pub taken : AreLostIn (first_setting st o) (first_cluster st o) events lost

-- The lists are those of the course, and the numbers are the replay of the order.
pub record IsGathered (failures : List FailureAt) (st : Setting) (o : CallOpening) (events : List Event) (c : Cluster) (lost : List Entry) (lists : CallLists) : Type 0 where
  pub are : ListsOfTrace st failures o.base o.first events c (gathered_lists lost lists)
  pub numbers : AreNumbers (size st.graph) (replay st.graph st.program lists.order.items).vertex lists.numbers.items

-- a vertex of the graph is a task of the machine that owns it
abbrev pub IsTaskIn : Setting → Cluster → ℕ → Type 0
IsTaskIn st c v = (v < size st.graph) × ((c.machine (st.owner v)).part.task v ≡ true)
