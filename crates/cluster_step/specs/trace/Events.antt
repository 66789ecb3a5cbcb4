-- What may happen in the course of a call, and what it makes of that.
use Rattle.std.specs.Prelude.{Bool, List, None, Option, Some, [], false, true, ⊤, ◌++◌, ◌∷◌, ◌≡◌, ℕ}
use Rattle.gl_base.specs.declared.jobs.FailureAt.{FailureAt}
use Rattle.gl_base.specs.declared.numbers.MachineNo.{MachineNo}
use Rattle.cluster_laws.specs.cluster_model.Events as law
use Rattle.cluster_step.specs.trace.Traces.{CallOpening, Cluster, TraceView, InEachTrace, IsTraceNow, Machine, Setting, newest_setting}
use Rattle.cluster_step.specs.clusters.Events.{IsNamedEvent}
use Rattle.cluster_step.specs.declared.clusters.events.Event.{Event}
use Rattle.cluster_step.specs.declared.clusters.events.Event.TheVariants as event
use Rattle.cluster_step.specs.declared.clusters.events.Lead.TheVariants as lead
use Rattle.cluster_step.specs.declared.clusters.events.Local.TheVariants as local
use Rattle.cluster_step.specs.declared.clusters.events.Passage.TheVariants as passage
use Rattle.call_laws.specs.whole_calls.Following.{FollowsJob}

-- such an event might occur, and follows the job
pub record MayHappenInCall (st : Setting) (failures : List FailureAt) (c : Cluster) (what : Event) (event : law.Event) : Type 0 where
  pub is : IsNamedEvent what event
  pub may : law.MayOccur st c event
  pub follows : FollowsJob st failures c event

-- It has happened: the course goes on by it.
pub record HasHappenedInCall {M : Type 0} (represents : Setting → ℕ → Machine → M → Type 0) (old : TraceView M) (what : Event) (new : TraceView M) (st : Setting) (o : CallOpening) (events : List law.Event) (c : Cluster) : Type 0 where
  pub event : law.Event
  pub may : MayHappenInCall (newest_setting st o events) old.failures c what event
  pub now : IsTraceNow represents new st o (events ++ event ∷ []) (law.after_event (newest_setting st o events) c event)

abbrev pub HappensInCall : {M : Type 0} → (Setting → ℕ → Machine → M → Type 0) → TraceView M → Event → TraceView M → Type 0
HappensInCall represents old what new = InEachTrace represents old (HasHappenedInCall represents old what new)

-- it may happen; it may not; and the cluster is where it was
abbrev pub CanHappenInCall : {M : Type 0} → (Setting → ℕ → Machine → M → Type 0) → TraceView M → Event → Type 0
CanHappenInCall represents old what = InEachTrace represents old (λ st o events c. (event : law.Event) × MayHappenInCall (newest_setting st o events) old.failures c what event)

abbrev pub IsEventDisabled : {M : Type 0} → (Setting → ℕ → Machine → M → Type 0) → TraceView M → Event → Type 0
IsEventDisabled represents old what = InEachTrace represents old (λ st o events c. (event : law.Event) → MayHappenInCall (newest_setting st o events) old.failures c what event → ⊥)

abbrev pub StaysThere : {M : Type 0} → (Setting → ℕ → Machine → M → Type 0) → TraceView M → TraceView M → Type 0
StaysThere represents old new = InEachTrace represents old (IsTraceNow represents new)

-- ---- what is held back

-- the machine that makes such an event, where it is one that a machine makes only before it has reached the count of a failure, or only
-- once it has
abbrev pub watched : Event → Option (MachineNo × Bool)
watched (event.Local (local.Update s)) = Some (s.home, false)
watched (event.Local (local.Fail m)) = Some (m, true)
watched (event.Passage (passage.DeliverCall m)) = Some (m, false)
watched _ = None

-- Such events are held back exactly where they would not follow the job.
pub record IsHeldBack (failures : List FailureAt) (what : Event) (answer : Bool) (st : Setting) (o : CallOpening) (events : List law.Event) (c : Cluster) : Type 0 where
  pub held : answer ≡ true → (event : law.Event) → IsNamedEvent what event → FollowsJob (newest_setting st o events) failures c event → ⊥
  pub free : answer ≡ false → (event : law.Event) → IsNamedEvent what event → FollowsJob (newest_setting st o events) failures c event

-- ---- which events these are

-- it acknowledges no snapshot, and doesn't end the run
abbrev pub GoesOnBy : Event → Type 0
GoesOnBy (event.Lead lead.Record) = ⊥
GoesOnBy (event.Lead lead.Stop) = ⊥
GoesOnBy _ = ⊤
