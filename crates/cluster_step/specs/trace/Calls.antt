-- The call that a course makes, and what is so of it.
use Rattle.std.specs.List.{AllByRecursion}
use Rattle.std.specs.Prelude.{List, false, length, true, ℕ, ◌+◌, ◌/◌, ◌<◌, ◌≡◌, ◌≤◌}
use Rattle.gl_base.specs.declared.jobs.FailureAt.{FailureAt}
use Rattle.gl_base.specs.declared.entries.Entry.{Entry}
use Rattle.call_laws.specs.attempts.EngineCalls.{EngineCall, call_order, lost_of, made_of}
use Rattle.call_laws.specs.attempts.Stores.{last_order, snapshots_of}
use Rattle.cluster_laws.specs.cluster_model.Events as law
use Rattle.cluster_laws.specs.cluster_model.Working.{half_window}
use Rattle.cluster_step.specs.trace.Traces.{CallOpening, Cluster, TraceView, InEachTrace, Machine, Setting, first_cluster, first_setting, newest_setting}
use Rattle.graph_core.specs.DataGraph.{size}
use Rattle.cluster_laws.specs.merged_logs.Merges.{IsByMachineBelow}
use Rattle.seq_run.specs.Orders.{tasks_after}
use Rattle.whole_laws.specs.cluster_ending.Ends.{HasEnded}
use Rattle.whole_laws.specs.cluster_records.Few.{under_way}
use Rattle.call_laws.specs.whole_calls.Called.{IsCallOf, KeepsWindows}
use Rattle.call_laws.specs.whole_calls.Lost.{AreLostIn}
use Rattle.call_laws.specs.whole_calls.Saved.{AreNextOrders, AreSnapshotsOf, fronts_in, recorded_in}
use Rattle.call_laws.specs.whole_calls.Telling.{CallReport}

-- These events make this call: where snapshots are taken it keeps its windows, the snapshots that were acknowledged are its, and what waves
-- and tickets tell is so of it.
pub record MakesCall (st : Setting) (failures : List FailureAt) (o : CallOpening) (events : List law.Event) (c : Cluster) (call : EngineCall) : Type 0 where
  pub is : IsCallOf st failures o.kept o.resumed c call
  pub windows : st.stored ≡ true → KeepsWindows st failures call
  pub snapshots : AreSnapshotsOf st o.base.number o.kept (recorded_in (first_setting st o) (first_cluster st o) events) (snapshots_of call)
  pub few : 0 < half_window st → length (snapshots_of call) + under_way c ≤ o.first.left / half_window st + 1
  pub tells : CallReport st o.first.left c call
  -- what the recoveries took away is what it lost
  pub lost : (lost : List Entry) → AreLostIn (first_setting st o) (first_cluster st o) events lost → lost_of call ≡ lost
  -- the orders of its snapshots are told by what their attempts began with and what their sections brought
  pub orders : AreNextOrders st o.kept (fronts_in (first_setting st o) (first_cluster st o) events) (recorded_in (first_setting st o) (first_cluster st o) events) (snapshots_of call)
  pub owners : AllByRecursion (IsByMachineBelow st.machines) (made_of call)

-- in each course, of each call that it makes
abbrev pub OfTheCall : {M : Type 0} → (Setting → ℕ → Machine → M → Type 0) → TraceView M → (Setting → CallOpening → Cluster → EngineCall → Type 0) → Type 0
OfTheCall represents v holds = InEachTrace represents v (λ st o events c. (call : EngineCall) → MakesCall st v.failures o events c call → holds st o c call)

-- each course makes one
abbrev pub HasCall : {M : Type 0} → (Setting → ℕ → Machine → M → Type 0) → TraceView M → Type 0
HasCall represents v = InEachTrace represents v (λ st o events c. (call : EngineCall) × MakesCall st v.failures o events c call)

-- no task is left after the call's order, and no failure was reached in its last attempt
pub record LeavesNothing (st : Setting) (call : EngineCall) : Type 0 where
  pub tasks : (u : ℕ) → u < size st.graph → tasks_after st.graph st.program (call_order call) u ≡ false
  pub unharmed : call.last.struck ≡ 0

-- No task is left after the call's order, and no failure was reached in its last attempt; and where snapshots are taken the call has one, and
-- the last has the whole order.
pub record HasEndedCall (st : Setting) (call : EngineCall) : Type 0 where
  pub tasks : (u : ℕ) → u < size st.graph → tasks_after st.graph st.program (call_order call) u ≡ false
  pub unharmed : call.last.struck ≡ 0
  pub some : st.stored ≡ true → 1 ≤ length (snapshots_of call)
  pub saved : st.stored ≡ true → last_order call.base (snapshots_of call) ≡ call_order call

-- where no snapshots are taken the cluster has ended in each course: no scope is in flight, nobody waits for a lock, and no message is between machines
abbrev pub EndsWhereUnsaved : {M : Type 0} → (Setting → ℕ → Machine → M → Type 0) → TraceView M → Type 0
EndsWhereUnsaved represents v = InEachTrace represents v (λ st o events c. st.stored ≡ false → HasEnded (newest_setting st o events) c)

-- a task is left after the call's order
abbrev pub HasTaskLeft : Setting → EngineCall → Type 0
HasTaskLeft st call = (v : ℕ) × (v < size st.graph) × (tasks_after st.graph st.program (call_order call) v ≡ true)
