-- How a call opens, and the events of a cluster from there on.
use Rattle.std.specs.Prelude.{Bool, List, [], false, if◌then◌else◌, true, ℕ, ◌++◌, ◌∷◌, ◌≡◌, ◌⊎◌}
use Rattle.gl_base.specs.declared.entries.Entry.{Entry}
use Rattle.gl_base.specs.declared.entries.Entry.TheVariants.{Restart}
use Rattle.gl_base.specs.declared.jobs.FailureAt.{FailureAt}
use Rattle.call_laws.specs.attempts.EngineCalls.{IsOrderInTurn, ticket_above}
use Rattle.cluster_laws.specs.cluster_core.Recovering.{going_on}
use Rattle.cluster_laws.specs.cluster_core.Settings.{IsSetting, Setting}
use Rattle.cluster_laws.specs.cluster_model.Clusters.{BaseView, Cluster}
use Rattle.cluster_laws.specs.cluster_model.Events.{Event, IsTrace, recovers}
use Rattle.cluster_laws.specs.cluster_model.Machines.{completed}
use Rattle.whole_laws.specs.cluster_records.Recorded.{HaveSameNumbers}
use Rattle.cluster_laws.specs.cluster_runs.Recorded.{shared_of}
use Rattle.whole_laws.specs.cluster_whole.Whole.{AreColoured}
use Rattle.seq_run.specs.Orders.{replay}
use Rattle.call_laws.specs.whole_calls.Following.{AreJobFailures, FollowJob}

-- A call opens with the order of the store's last snapshot, where it resumes that, and with no order where it doesn't. The first attempt
-- goes back to that, and behind it a restart where it resumes; the tickets that are left are the budget, and no machine has made an
-- update.
pub record IsOpened (st : Setting) (failures : List FailureAt) (kept : List Entry) (resumed : Bool) (base : BaseView) (first : Cluster) : Type 0 where
  pub ordered : AreJobFailures st.machines failures
  pub in_turn : IsOrderInTurn (shared_of st failures) kept
  pub begins : (resumed ≡ true) ⊎ ((resumed ≡ false) × (kept ≡ []))
  pub front : base.order ≡ kept ++ (if resumed then Restart (ticket_above kept) ∷ [] else [])
  pub numbers : HaveSameNumbers st.graph base.numbers (replay st.graph st.program base.order)
  pub next : first.next ≡ ticket_above kept
  pub done : (a : ℕ) → completed (first.machine a) ≡ 0

-- These events lead from the opening of the call to this cluster, and follow the job.
pub record IsTraceOfCall (st : Setting) (failures : List FailureAt) (kept : List Entry) (resumed : Bool) (base : BaseView) (first : Cluster) (events : List Event) (c : Cluster) : Type 0 where
  pub is : IsSetting st
  pub coloured : AreColoured st st.engine
  pub opened : IsOpened st failures kept resumed base first
  pub trace : IsTrace (going_on st base.numbers base.number) (recovers st base first) events c
  pub follows : FollowJob (going_on st base.numbers base.number) failures (recovers st base first) events
