-- The call that a cluster makes of its events.
use Rattle.std.specs.List.{AllByRecursion}
use Rattle.std.specs.Prelude.{Bool, List, length, true, ℕ, ◌*◌, ◌+◌, ◌<◌, ◌↔◌, ◌≡◌, ◌≤◌}
use Rattle.gl_base.specs.declared.entries.Entry.{Entry}
use Rattle.gl_base.specs.declared.jobs.FailureAt.{FailureAt}
use Rattle.call_laws.specs.attempts.EngineCalls.{EngineCall, IsEngineCall, call_order, done_of, fired_of, first_ticket, last_beginning, lost_of, made_of}
use Rattle.call_laws.specs.attempts.Stores.{IsWithinWindow, last_order, snapshots_of}
use Rattle.cluster_laws.specs.cluster_core.Replays.{IsTask, entries_of}
use Rattle.cluster_laws.specs.cluster_core.Settings.{Setting}
use Rattle.cluster_laws.specs.cluster_model.Clusters.{Cluster}
use Rattle.cluster_laws.specs.cluster_model.Machines.{completed}
use Rattle.cluster_laws.specs.cluster_runs.Attempts.{made_by}
use Rattle.cluster_laws.specs.cluster_runs.Recorded.{shared_of}
use Rattle.whole_laws.specs.cluster_whole.Views.{world_of}
use Rattle.graph_core.specs.DataGraph.{size}
use Rattle.cluster_laws.specs.merged_logs.Merges.{IsByMachineBelow}
use Rattle.seq_run.specs.Orders.{replay, tasks_after}

-- The call opened with this order, resumed or not, and the cluster stands where its attempts led.
pub record IsCallOf (st : Setting) (failures : List FailureAt) (kept : List Entry) (resumed : Bool) (c : Cluster) (call : EngineCall) : Type 0 where
  pub is : IsEngineCall (shared_of st failures) call
  pub base : call.base ≡ kept
  pub was_resumed : call.resumed ≡ resumed
  -- the cluster's attempt began where the call's last one did, and its machines' logs are the updates of that one
  pub front : c.base.order ≡ (last_beginning call).front
  pub logs : (a : ℕ) → (c.machine a).part.log ≡ entries_of a call.last.made
  pub machines : AllByRecursion (IsByMachineBelow st.machines) call.last.made
  -- tickets and counts
  pub next : c.next ≡ first_ticket call + length (made_of call)
  pub done : (a : ℕ) → completed (c.machine a) ≡ done_of call a
  -- the owners' numbers are the replay of the call's order, and what is left after it are their tasks and those on the way
  pub numbers : (v : ℕ) → v < size st.graph → ((c.machine (st.owner v)).part.datum v).value ≡ (replay st.graph st.program (call_order call)).vertex v
  pub tasks : (u : ℕ) → u < size st.graph → (tasks_after st.graph st.program (call_order call) u ≡ true) ↔ IsTask st (world_of c) u

-- Of each machine at most a window of updates was lost for each failure that fired, and at most a window is outside the last snapshot.
pub record KeepsWindows (st : Setting) (failures : List FailureAt) (call : EngineCall) : Type 0 where
  pub lost : (m : ℕ) → made_by (lost_of call) m ≤ st.window * length (fired_of (shared_of st failures) call)
  pub outside : IsWithinWindow st.window (last_order call.base (snapshots_of call)) (call_order call)
