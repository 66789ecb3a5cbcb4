-- The course of a call on a cluster that takes snapshots: how the call opened, and what has happened since.
pub use Rattle.cluster_laws.specs.cluster_model.Clusters.{BaseView, Cluster}
pub use Rattle.cluster_laws.specs.cluster_model.Machines.{Machine}
pub use Rattle.cluster_laws.specs.cluster_core.Settings.{Setting}
pub use Rattle.coordinator.specs.coord_core.Coordinators.{StoreView}
pub use Rattle.cluster_step.specs.clusters.Clusters.{Engine, IsSavingClusterOf, IsSnapSetting, StartsSaving}
pub use Rattle.cluster_step.specs.declared.clusters.parts.Parts.{Parts}
use Rattle.std.specs.List.{AllByRecursion}
use Rattle.std.specs.Prelude.{Bool, List, Option, [], length, slice_index_or, ℕ, ◌++◌, ◌<◌, ◌∷◌, ◌≡◌, ◌≢◌}
use Rattle.gl_base.specs.declared.entries.Entry.{Entry}
use Rattle.gl_base.specs.declared.jobs.FailureAt.{FailureAt}
use Rattle.cluster_laws.specs.cluster_core.Recovering.{going_on}
use Rattle.cluster_laws.specs.cluster_model.Events as law
use Rattle.whole_laws.specs.cluster_whole.Whole.{IsNoRecovery, setting_behind}
use Rattle.call_laws.specs.whole_calls.Following.{FollowsJob}
use Rattle.call_laws.specs.whole_calls.Opened.{IsTraceOfCall, IsOpened}

-- How a call opened: the order of the store's last snapshot, and whether the call resumes it; what the first attempt goes back to; and
-- the cluster before that.
pub record CallOpening : Type 0 where
  pub kept : List Entry
  pub resumed : Bool
  pub base : BaseView
  pub first : Cluster

-- What the course of a call holds: the cluster as the call opened, the failures that the job orders, how many updates each machine had
-- completed as the newest attempt began, the cluster as it was at some time since then, behind which no snapshot was acknowledged, and
-- the cluster now.
pub record TraceView (M : Type 0) : Type 0 where
  pub start : Parts M
  pub failures : List FailureAt
  pub done : List ℕ
  pub since : Parts M
  pub now : Parts M

-- the setting of the first attempt, and its cluster as it began
abbrev pub first_setting : Setting → CallOpening → Setting
first_setting st o = going_on st o.base.numbers o.base.number

abbrev pub first_cluster : Setting → CallOpening → Cluster
first_cluster st o = law.recovers st o.base o.first

-- the setting of the newest attempt, behind these events
abbrev pub newest_setting : Setting → CallOpening → List law.Event → Setting
newest_setting st o events = setting_behind (first_setting st o) events

-- In this setting the call opened so.
pub record OpensCall {M : Type 0} (represents : Setting → ℕ → Machine → M → Type 0) (start : Parts M) (failures : List FailureAt) (st : Setting) (o : CallOpening) : Type 0 where
  pub setting : IsSnapSetting st
  pub opened : IsOpened st failures o.kept o.resumed o.base o.first
  pub code : IsSavingClusterOf represents (first_setting st o) start (first_cluster st o)

-- The call opened so, these events have led to this cluster of the law, and for that the cluster stands.
pub record IsTraceNow {M : Type 0} (represents : Setting → ℕ → Machine → M → Type 0) (v : TraceView M) (st : Setting) (o : CallOpening) (events : List law.Event) (c : Cluster) : Type 0 where
  pub setting : IsSnapSetting st
  pub trace : IsTraceOfCall st v.failures o.kept o.resumed o.base o.first events c
  pub code : IsSavingClusterOf represents (newest_setting st o events) v.now c
  pub done : (a : ℕ) → a < st.machines → (c.machine a).done ≡ slice_index_or v.done a 0

-- in each course to where the cluster is
abbrev pub InEachTrace : {M : Type 0} → (Setting → ℕ → Machine → M → Type 0) → TraceView M → (Setting → CallOpening → List law.Event → Cluster → Type 0) → Type 0
InEachTrace represents v holds = (st : Setting) (o : CallOpening) (events : List law.Event) (c : Cluster) → IsTraceNow represents v st o events c → holds st o events c

-- the event acknowledges no snapshot and begins no attempt
abbrev pub IsPassing : law.Event → Type 0
IsPassing event = (event ≢ law.Record) × IsNoRecovery event

abbrev pub ArePassing : List law.Event → Type 0
ArePassing events = AllByRecursion IsPassing events

-- The newer cluster has come of the older one, in the same attempt, and no snapshot was acknowledged between.
abbrev pub TraceGoesOn : {M : Type 0} → (Setting → ℕ → Machine → M → Type 0) → TraceView M → TraceView M → Type 0
TraceGoesOn represents old new = InEachTrace represents old (λ st o events c. (more : List law.Event) × (later : Cluster) × ArePassing more × IsTraceNow represents new st o (events ++ more) later)

-- as it was at that time
abbrev pub as_since : {M : Type 0} → TraceView M → TraceView M
as_since v = record v { now = v.since }

-- There is a count for each machine, and each course to where the cluster was at that time has gone on to where it is.
pub record HasTrace {M : Type 0} (represents : Setting → ℕ → Machine → M → Type 0) (v : TraceView M) : Type 0 where
  pub many : length v.done ≡ length v.now.machines.items
  pub goes_on : TraceGoesOn represents (as_since v) v

-- it is the same call and the same attempt, remembered at the same time, with as many machines, and it has ended where the other has
pub record IsSameAttempt {M : Type 0} (old new : TraceView M) : Type 0 where
  pub start : new.start ≡ old.start
  pub failures : new.failures ≡ old.failures
  pub done : new.done ≡ old.done
  pub since : new.since ≡ old.since
  pub many : length new.now.machines.items ≡ length old.now.machines.items
  pub stopped : new.now.stopped ≡ old.now.stopped

-- ---- where it goes back

-- Recover may occur in this course and follows the job, and the machines begin again from its base, with this engine, and with this store
-- or without one.
pub record GoesBackWith {M : Type 0} (represents : Setting → ℕ → Machine → M → Type 0) (old : TraceView M) (xs : List M) (engine : Engine) (store : Option StoreView) (st : Setting) (o : CallOpening) (events : List law.Event) (c : Cluster) (base : BaseView) : Type 0 where
  pub is : IsTraceNow represents old st o events c
  pub may : law.MayOccur (newest_setting st o events) c (law.Recover base)
  pub follows : FollowsJob (newest_setting st o events) old.failures c (law.Recover base)
  pub starts : StartsSaving represents xs engine store old.now.next old.now.left (newest_setting st o events) base c

-- each that may has gone back
abbrev pub HasGoneBack : {M : Type 0} → (Setting → ℕ → Machine → M → Type 0) → TraceView M → List M → Engine → Option StoreView → TraceView M → Type 0
HasGoneBack represents old xs engine store new =
    (st : Setting) (o : CallOpening) (events : List law.Event) (c : Cluster) (base : BaseView) → GoesBackWith represents old xs engine store st o events c base →
    IsTraceNow represents new st o (events ++ law.Recover base ∷ []) (law.recovers (newest_setting st o events) base c)

-- ---- where it begins

-- The machines begin the call's first attempt in this setting, with this engine, and with this store or without one.
pub record StartsCall {M : Type 0} (represents : Setting → ℕ → Machine → M → Type 0) (xs : List M) (engine : Engine) (store : Option StoreView) (next left : ℕ) (failures : List FailureAt) (st : Setting) (o : CallOpening) : Type 0 where
  pub starts : StartsSaving represents xs engine store next left st o.base o.first
  pub opened : IsOpened st failures o.kept o.resumed o.base o.first
