-- The course of a call goes on, event by event.
use Rattle.std.proofs.Common.{◌≡◌, ◌≢◌, ℕ, zero, suc, ◌<◌, ◌++◌, Bool, true, false, List, [], ◌∷◌, length, refl, sym, ap, append_assoc, subst, ◌∙◌}
use Rattle.std.proofs.lemmas.List.{append-nil}
use Rattle.std.specs.Prelude.{Err, None, Ok, OnErr, OnOk, Option, Result, Some, replicate, slice_index_or}
use Rattle.gl_base.specs.declared.jobs.FailureAt.{FailureAt}
use Rattle.gl_base.specs.declared.numbers.MachineNo.{MachineNo}
use Rattle.gl_base.specs.declared.refusals.Refused.{Refused}
use Rattle.cluster_laws.specs.cluster_core.Recovering.{going_on}
use Rattle.cluster_laws.specs.cluster_model.Events as law
use Rattle.cluster_laws.specs.cluster_model.Machines.{completed}
use Rattle.whole_laws.specs.cluster_records.LineOfFour.{after_events}
use Rattle.call_laws.proofs.cluster_attempts.Joining.{done_kept}
use Rattle.whole_laws.proofs.cluster_ending.Traces.{setting_same}
use Rattle.whole_laws.specs.cluster_whole.Whole.{IsNoRecovery, setting_behind}
use Rattle.cluster_step.specs.trace.Traces.{BaseView, CallOpening, Cluster, TraceView, TraceGoesOn, Engine, GoesBackWith, HasTrace, HasGoneBack, InEachTrace, IsTraceNow, IsSameAttempt, IsSavingClusterOf, IsSnapSetting, Machine, OpensCall, Parts, ArePassing, IsPassing, Setting, StartsCall, StartsSaving, StoreView, as_since, first_cluster, first_setting, newest_setting}
use Rattle.cluster_step.specs.trace.Events.{CanHappenInCall, IsEventDisabled, HappensInCall, IsHeldBack, GoesOnBy, StaysThere, watched}
use Rattle.cluster_step.specs.clusters.Clusters.{GoesOnWith, StandsForSameSaving}
use Rattle.cluster_step.specs.clusters.Events.{CanTakePlace, CanNotTakePlace, IsNamedEvent, IsNoStop, NamesItsMachines, TakesPlace}
use Rattle.cluster_step.specs.declared.clusters.events.Event.{Event}
use Rattle.cluster_step.specs.declared.clusters.events.Event.TheVariants as event
use Rattle.cluster_step.specs.declared.clusters.events.Lead.TheVariants as lead
use Rattle.cluster_step.specs.declared.clusters.events.Local.TheVariants as local
use Rattle.cluster_step.specs.declared.clusters.events.Passage.TheVariants as passage
use Rattle.call_laws.specs.whole_calls.Following.{FollowJob, FollowsJob, has_reached}
use Rattle.call_laws.specs.whole_calls.Opened.{IsTraceOfCall}
use Rattle.call_laws.proofs.whole_calls.Leading.{behind_since}
use Rattle.call_laws.proofs.whole_calls.WorkedPair.{trace_append, follow_append}

-- ---- one event behind a course

pub behind_append : (xs ys : List law.Event) (st : Setting) → setting_behind st (xs ++ ys) ≡ setting_behind (setting_behind st xs) ys
behind_append [] ys st = refl
behind_append (x ∷ xs) ys st = behind_append xs ys (law.setting_after st x)

pub ends_at : (events : List law.Event) (st : Setting) (a c : Cluster) → law.IsTrace st a events c → c ≡ after_events st events a
ends_at [] st a c trace = trace
ends_at (event ∷ events) st a c trace = ends_at events (law.setting_after st event) (law.after_event st a event) c trace.1

pub setting_now : (st : Setting) (o : CallOpening) (events : List law.Event) → IsSnapSetting st → IsSnapSetting (newest_setting st o events)
setting_now st o events setting =
    let last : Setting = newest_setting st o events in
    subst IsSnapSetting (sym (behind_since events (first_setting st o)))
    (record { is = record { graph = setting.is.graph; owner = setting.is.owner }; coloured = setting.coloured })

-- and snapshots are taken in it where they are
pub stored_now : (st : Setting) (o : CallOpening) (events : List law.Event) → st.stored ≡ true → (newest_setting st o events).stored ≡ true
stored_now st o events stored = ap (λ (s : Setting). s.stored) (behind_since events (first_setting st o)) ∙ stored

-- ---- events that are no recovery

named_other : (what : Event) (e : law.Event) → IsNamedEvent what e → IsNoRecovery e
named_other (event.Local (local.Admit a)) e is = λ base so. let is_e = is.1 in absurd (cc)
named_other (event.Local (local.Grant a x)) e is = λ base so. absurd (cc)
named_other (event.Local (local.Update s)) e is = λ base so. absurd (cc)
named_other (event.Local (local.Mark s)) e is = λ base so. absurd (cc)
named_other (event.Local (local.Section a)) e is = λ base so. absurd (cc)
named_other (event.Local (local.Fail a)) e is = λ base so. absurd (cc)
named_other (event.Lead lead.Record) e is = λ base so. absurd (cc)
named_other (event.Lead lead.Begin) e is = λ base so. absurd (cc)
named_other (event.Lead lead.Step) e is = λ base so. absurd (cc)
named_other (event.Lead lead.Wave) e is = λ base so. absurd (cc)
named_other (event.Lead lead.Stop) e is = λ base so. absurd (cc)
named_other (event.Passage (passage.Send p q)) e is = λ base so. absurd (cc)
named_other (event.Passage (passage.Deliver p q)) e is = λ base so. absurd (cc)
named_other (event.Passage (passage.SendCall a)) e is = λ base so. absurd (cc)
named_other (event.Passage (passage.DeliverCall a)) e is = λ base so. absurd (cc)
named_other (event.Passage (passage.SendReport a)) e is = λ base so. absurd (cc)
named_other (event.Passage (passage.DeliverReport a)) e is = λ base so. absurd (cc)

named_quiet : (what : Event) (e : law.Event) → GoesOnBy what → IsNamedEvent what e → e ≢ law.Record
named_quiet (event.Local (local.Admit a)) e none is = λ so. let is_e = is.1 in absurd (cc)
named_quiet (event.Local (local.Grant a x)) e none is = λ so. absurd (cc)
named_quiet (event.Local (local.Update s)) e none is = λ so. absurd (cc)
named_quiet (event.Local (local.Mark s)) e none is = λ so. absurd (cc)
named_quiet (event.Local (local.Section a)) e none is = λ so. absurd (cc)
named_quiet (event.Local (local.Fail a)) e none is = λ so. absurd (cc)
named_quiet (event.Lead lead.Record) e none is = absurd none
named_quiet (event.Lead lead.Begin) e none is = λ so. absurd (cc)
named_quiet (event.Lead lead.Step) e none is = λ so. absurd (cc)
named_quiet (event.Lead lead.Wave) e none is = λ so. absurd (cc)
named_quiet (event.Lead lead.Stop) e none is = absurd none
named_quiet (event.Passage (passage.Send p q)) e none is = λ so. absurd (cc)
named_quiet (event.Passage (passage.Deliver p q)) e none is = λ so. absurd (cc)
named_quiet (event.Passage (passage.SendCall a)) e none is = λ so. absurd (cc)
named_quiet (event.Passage (passage.DeliverCall a)) e none is = λ so. absurd (cc)
named_quiet (event.Passage (passage.SendReport a)) e none is = λ so. absurd (cc)
named_quiet (event.Passage (passage.DeliverReport a)) e none is = λ so. absurd (cc)

passing_append : (xs : List law.Event) (e : law.Event) → ArePassing xs → IsPassing e → ArePassing (xs ++ e ∷ [])
passing_append [] e all one = (one, tt)
passing_append (x ∷ xs) e all one = (all.0, passing_append xs e all.1 one)

module _ {M : Type 0} (represents : Setting → ℕ → Machine → M → Type 0) (old new : TraceView M) (failures : new.failures ≡ old.failures) where
  -- the course goes on by the event
  module _ (done : new.done ≡ old.done) (st : Setting) (o : CallOpening) (events : List law.Event) (c : Cluster) (is : IsTraceNow represents old st o events c) where
    abbrev now : Setting
    now = newest_setting st o events

    module _ (e : law.Event) (other : IsNoRecovery e) (may : law.MayOccur now c e) (follows : FollowsJob now old.failures c e) (after : IsSavingClusterOf represents now new.now (law.after_event now c e)) where
      abbrev later : List law.Event
      later = events ++ e ∷ []

      abbrev led : Cluster
      led = law.after_event now c e

      same : newest_setting st o later ≡ now
      same = behind_append events (e ∷ []) (first_setting st o) ∙ setting_same now e other

      ends : c ≡ after_events (first_setting st o) events (first_cluster st o)
      ends = ends_at events (first_setting st o) (first_cluster st o) c is.trace.trace

      trace_on : law.IsTrace (first_setting st o) (first_cluster st o) later led
      trace_on = trace_append events (e ∷ []) (first_setting st o) (first_cluster st o) c led is.trace.trace (may, refl)

      follow_on : FollowJob (first_setting st o) old.failures (first_cluster st o) later
      follow_on =
          follow_append old.failures events (e ∷ []) (first_setting st o) (first_cluster st o) is.trace.follows
          (subst (λ (x : Cluster). FollowJob now old.failures x (e ∷ [])) ends (follows, tt))

      trace_of : IsTraceOfCall st old.failures o.kept o.resumed o.base o.first later led
      trace_of = record { is = is.trace.is; coloured = is.trace.coloured; opened = is.trace.opened; trace = trace_on; follows = follow_on }

      pub goes_on : IsTraceNow represents new st o later led
      goes_on = record {
        setting = is.setting;
        trace = subst (λ (fs : List FailureAt). IsTraceOfCall st fs o.kept o.resumed o.base o.first later led) (sym failures) trace_of;
        code = subst (λ (s : Setting). IsSavingClusterOf represents s new.now led) (sym same) after;
        done = λ a low. done_kept now c a e may.1 other ∙ is.done a low ∙ ap (λ (ds : List ℕ). slice_index_or ds a 0) (sym done);
      }

  -- it stays where it is
  pub stays : new.done ≡ old.done → ((st : Setting) (c : Cluster) → IsSnapSetting st → IsSavingClusterOf represents st old.now c → IsSavingClusterOf represents st new.now c) → StaysThere represents old new
  stays done same st o events c is = record {
    setting = is.setting;
    trace = subst (λ (fs : List FailureAt). IsTraceOfCall st fs o.kept o.resumed o.base o.first events c) (sym failures) is.trace;
    code = same (newest_setting st o events) c (setting_now st o events is.setting) is.code;
    done = λ a low. is.done a low ∙ ap (λ (ds : List ℕ). slice_index_or ds a 0) (sym done);
  }

  pub happens : new.done ≡ old.done → (what : Event) → InEachTrace represents old (IsHeldBack old.failures what false) → TakesPlace represents old.now what new.now → HappensInCall represents old what new
  happens done what free takes st o events c is =
      let now : Setting = newest_setting st o events in
      let has = takes now c (setting_now st o events is.setting) is.code in
      let follows : FollowsJob now old.failures c has.event = (free st o events c is).free refl has.event has.is in
      record {
        event = has.event;
        may = record { is = has.is; may = has.may; follows = follows };
        now = goes_on done st o events c is has.event (named_other what has.event has.is) has.may follows has.after;
      }

  -- as it was at that time, in both
  module _ (since : new.since ≡ old.since) (done : new.done ≡ old.done) where
    pub since_back : (st : Setting) (o : CallOpening) (events : List law.Event) (c : Cluster) → IsTraceNow represents (as_since new) st o events c → IsTraceNow represents (as_since old) st o events c
    since_back st o events c is = record {
      setting = is.setting;
      trace = subst (λ (fs : List FailureAt). IsTraceOfCall st fs o.kept o.resumed o.base o.first events c) failures is.trace;
      code = subst (λ (p : Parts M). IsSavingClusterOf represents (newest_setting st o events) p c) since is.code;
      done = λ a low. is.done a low ∙ ap (λ (ds : List ℕ). slice_index_or ds a 0) done;
    }

    pub going_on_by : (what : Event) → GoesOnBy what → HasTrace represents old → HappensInCall represents old what new → TraceGoesOn represents (as_since new) new
    going_on_by what none has all st o events c is =
        let before = has.goes_on st o events c (since_back st o events c is) in
        let next = all st o (events ++ before.0) before.1 before.3 in (
          before.0 ++ next.event ∷ [],
          law.after_event (newest_setting st o (events ++ before.0)) before.1 next.event,
          passing_append before.0 next.event before.2 (named_quiet what next.event none next.may.is, named_other what next.event next.may.is),
          subst (λ (es : List law.Event). IsTraceNow represents new st o es (law.after_event (newest_setting st o (events ++ before.0)) before.1 next.event)) (append_assoc events before.0 (next.event ∷ [])) next.now,
        )

    pub going_still : HasTrace represents old → StaysThere represents old new → TraceGoesOn represents (as_since new) new
    going_still has all st o events c is =
        let before = has.goes_on st o events c (since_back st o events c is) in
        (before.0, before.1, before.2, all st o (events ++ before.0) before.1 before.3)

-- where the cluster is, it goes on from there
module _ {M : Type 0} (represents : Setting → ℕ → Machine → M → Type 0) (v : TraceView M) (here : v.since ≡ v.now) where
  still_now : (st : Setting) (o : CallOpening) (events : List law.Event) (c : Cluster) → IsTraceNow represents (as_since v) st o events c → IsTraceNow represents v st o events c
  still_now st o events c is =
      record { setting = is.setting; trace = is.trace; code = subst (λ (p : Parts M). IsSavingClusterOf represents (newest_setting st o events) p c) here is.code; done = is.done }

  pub going_from : TraceGoesOn represents (as_since v) v
  going_from st o events c is =
      ([], c, tt, subst (λ (es : List law.Event). IsTraceNow represents v st o es c) (sym (append-nil events)) (still_now st o events c is))

  -- the cluster is remembered anew
  pub kept_anew : length v.done ≡ length v.now.machines.items → HasTrace represents v
  kept_anew many = record { many = many; goes_on = going_from }

-- ---- what is held back

abbrev Asked : Type 0
Asked = MachineNo × Bool

same_asked : (x y : Asked) → Some x ≡ Some y → x ≡ y
same_asked x y is = cc

-- the machine that is asked is one of the cluster
pub watched_in : (n : ℕ) (what : Event) (m : MachineNo) (wanted : Bool) → NamesItsMachines n what → watched what ≡ Some (m, wanted) → m.0 < n
watched_in n (event.Local (local.Update s)) m wanted names is = subst (λ (x : Asked). x.0.0 < n) (same_asked (s.home, false) (m, wanted) is) names
watched_in n (event.Local (local.Fail a)) m wanted names is = subst (λ (x : Asked). x.0.0 < n) (same_asked (a, true) (m, wanted) is) names
watched_in n (event.Passage (passage.DeliverCall a)) m wanted names is = subst (λ (x : Asked). x.0.0 < n) (same_asked (a, false) (m, wanted) is) names
watched_in n (event.Local (local.Admit a)) m wanted names is = absurd (cc)
watched_in n (event.Local (local.Grant a x)) m wanted names is = absurd (cc)
watched_in n (event.Local (local.Mark s)) m wanted names is = absurd (cc)
watched_in n (event.Local (local.Section a)) m wanted names is = absurd (cc)
watched_in n (event.Lead what) m wanted names is = absurd (cc)
watched_in n (event.Passage (passage.Send p q)) m wanted names is = absurd (cc)
watched_in n (event.Passage (passage.Deliver p q)) m wanted names is = absurd (cc)
watched_in n (event.Passage (passage.SendCall a)) m wanted names is = absurd (cc)
watched_in n (event.Passage (passage.SendReport a)) m wanted names is = absurd (cc)
watched_in n (event.Passage (passage.DeliverReport a)) m wanted names is = absurd (cc)

module _ (failures : List FailureAt) (st : Setting) (o : CallOpening) (events : List law.Event) (c : Cluster) where
  abbrev at_event : law.Event → Type 0
  at_event e = FollowsJob (newest_setting st o events) failures c e

  abbrev so_far : Asked → Type 0
  so_far asked = has_reached failures c asked.0.0 ≡ asked.1

  -- where none is asked, all of them follow the job
  pub free_others : (what : Event) → watched what ≡ None → (e : law.Event) → IsNamedEvent what e → at_event e
  free_others (event.Local (local.Update s)) none e is = absurd (cc)
  free_others (event.Local (local.Fail a)) none e is = absurd (cc)
  free_others (event.Passage (passage.DeliverCall a)) none e is = absurd (cc)
  free_others (event.Local (local.Admit a)) none e is = subst at_event (sym is.1) tt
  free_others (event.Local (local.Grant a x)) none e is = subst at_event (sym is) tt
  free_others (event.Local (local.Mark s)) none e is = subst at_event (sym is) tt
  free_others (event.Local (local.Section a)) none e is = subst at_event (sym is) tt
  free_others (event.Lead lead.Record) none e is = subst at_event (sym is) tt
  free_others (event.Lead lead.Begin) none e is = subst at_event (sym is) tt
  free_others (event.Lead lead.Step) none e is = subst at_event (sym is) tt
  free_others (event.Lead lead.Wave) none e is = subst at_event (sym is) tt
  free_others (event.Lead lead.Stop) none e is = subst at_event (sym is) tt
  free_others (event.Passage (passage.Send p q)) none e is = subst at_event (sym is) tt
  free_others (event.Passage (passage.Deliver p q)) none e is = subst at_event (sym is) tt
  free_others (event.Passage (passage.SendCall a)) none e is = subst at_event (sym is) tt
  free_others (event.Passage (passage.SendReport a)) none e is = subst at_event (sym is) tt
  free_others (event.Passage (passage.DeliverReport a)) none e is = subst at_event (sym is) tt

  pub others_held : (what : Event) → watched what ≡ None → IsHeldBack failures what false st o events c
  others_held what none = record { held = λ yes. absurd (cc); free = λ no e is. free_others what none e is }

  -- the others follow the job exactly where their machine has reached a count, or has not
  follows_so : (what : Event) (m : MachineNo) (wanted : Bool) → watched what ≡ Some (m, wanted) → (e : law.Event) → IsNamedEvent what e → at_event e ≡ so_far (m, wanted)
  follows_so (event.Local (local.Update s)) m wanted asked e is = ap at_event is ∙ ap so_far (same_asked (s.home, false) (m, wanted) asked)
  follows_so (event.Local (local.Fail a)) m wanted asked e is = ap at_event is ∙ ap so_far (same_asked (a, true) (m, wanted) asked)
  follows_so (event.Passage (passage.DeliverCall a)) m wanted asked e is = ap at_event is ∙ ap so_far (same_asked (a, false) (m, wanted) asked)
  follows_so (event.Local (local.Admit a)) m wanted asked e is = absurd (cc)
  follows_so (event.Local (local.Grant a x)) m wanted asked e is = absurd (cc)
  follows_so (event.Local (local.Mark s)) m wanted asked e is = absurd (cc)
  follows_so (event.Local (local.Section a)) m wanted asked e is = absurd (cc)
  follows_so (event.Lead what) m wanted asked e is = absurd (cc)
  follows_so (event.Passage (passage.Send p q)) m wanted asked e is = absurd (cc)
  follows_so (event.Passage (passage.Deliver p q)) m wanted asked e is = absurd (cc)
  follows_so (event.Passage (passage.SendCall a)) m wanted asked e is = absurd (cc)
  follows_so (event.Passage (passage.SendReport a)) m wanted asked e is = absurd (cc)
  follows_so (event.Passage (passage.DeliverReport a)) m wanted asked e is = absurd (cc)

  to_follow : (a b : Type 0) → a ≡ b → b → a
  to_follow a b same x = subst (λ (t : Type 0). t) (sym same) x

  from_follow : (a b : Type 0) → a ≡ b → a → b
  from_follow a b same x = subst (λ (t : Type 0). t) same x

  pub one_held : (what : Event) (m : MachineNo) (wanted : Bool) → watched what ≡ Some (m, wanted) → (reached : Bool) → reached ≡ has_reached failures c m.0 →
      (answer : Bool) → (answer ≡ true → reached ≡ wanted → ⊥) → (answer ≡ false → reached ≡ wanted) → IsHeldBack failures what answer st o events c
  one_held what m wanted asked reached reached_is answer other same =
      record {
        held = λ yes e is follows. other yes (reached_is ∙ from_follow (at_event e) (so_far (m, wanted)) (follows_so what m wanted asked e is) follows);
        free = λ no e is. to_follow (at_event e) (so_far (m, wanted)) (follows_so what m wanted asked e is) (sym reached_is ∙ same no);
      }

-- ---- what an event answers

module _ {M : Type 0} (represents : Setting → ℕ → Machine → M → Type 0) (old new : TraceView M) (failures : new.failures ≡ old.failures) (done : new.done ≡ old.done) (what : Event) where
  pub held_so : InEachTrace represents old (IsHeldBack old.failures what true) → IsEventDisabled represents old what
  held_so held st o events c is = λ e may. (held st o events c is).held refl e may.is may.follows

  pub cannot_happen : CanNotTakePlace represents old.now what → IsEventDisabled represents old what
  cannot_happen cannot st o events c is = λ e may. cannot (newest_setting st o events) c (setting_now st o events is.setting) is.code e may.is may.may

  pub can_happen : InEachTrace represents old (IsHeldBack old.failures what false) → CanTakePlace represents old.now what → CanHappenInCall represents old what
  can_happen free can st o events c is =
      let some = can (newest_setting st o events) c (setting_now st o events is.setting) is.code in
      (some.0, record { is = some.1; may = some.2; follows = (free st o events c is).free refl some.0 some.1 })

  pub made_so : InEachTrace represents old (IsHeldBack old.failures what false) → (r : Result (Unit {0}) Refused) → OnOk r (TakesPlace represents old.now what new.now) → OnOk r (HappensInCall represents old what new)
  made_so free (Ok u) takes = happens represents old new failures done what free takes
  made_so free (Err e) takes = tt

  pub unchanged_so : (r : Result (Unit {0}) Refused) → OnErr r (StandsForSameSaving represents old.now new.now) → OnErr r (StaysThere represents old new)
  unchanged_so (Ok u) still = tt
  unchanged_so (Err e) still = stays represents old new failures done still

  -- the cluster as it was at that time stays
  pub kept_since : length new.done ≡ length new.now.machines.items → HasTrace represents old → GoesOnBy what → new.since ≡ old.since → (r : Result (Unit {0}) Refused) →
      OnOk r (HappensInCall represents old what new) → OnErr r (StaysThere represents old new) → HasTrace represents new
  kept_since many has none since (Ok u) all still = record { many = many; goes_on = going_on_by represents old new failures since done what none has all }
  kept_since many has none since (Err e) all still = record { many = many; goes_on = going_still represents old new failures since done has still }

-- ---- where it begins

module _ {M : Type 0} (represents : Setting → ℕ → Machine → M → Type 0) (xs : List M) (engine : Engine) (store : Option StoreView) (next left : ℕ) (p : Parts M)
    (began : (st : Setting) (base : BaseView) (before : Cluster) → StartsSaving represents xs engine store next left st base before → IsSavingClusterOf represents (going_on st base.numbers base.number) p (law.recovers st base before))
    (failures : List FailureAt) where
  pub opens_call : (st : Setting) (o : CallOpening) → StartsCall represents xs engine store next left failures st o → OpensCall represents p failures st o
  opens_call st o starts = record { setting = starts.starts.setting; opened = starts.opened; code = began st o.base o.first starts.starts }

-- no machine has completed an update yet
abbrev zeros : ℕ → List ℕ
zeros n = replicate n 0

pub none_done : (n a : ℕ) → ◌≡◌ {A = ℕ} (slice_index_or (zeros n) a 0) 0
none_done zero a = refl
none_done (suc n) zero = refl
none_done (suc n) (suc a) = none_done n a

-- ---- what the type shows of it

module _ {M : Type 0} (represents : Setting → ℕ → Machine → M → Type 0) (v own : TraceView M) (view_is : v ≡ own) (since cluster : Parts M) where
  abbrev later_view : TraceView M
  later_view = record v { since = since; now = cluster }

  failures_same : later_view.failures ≡ own.failures
  failures_same = ap (λ (x : TraceView M). x.failures) view_is

  done_same : later_view.done ≡ own.done
  done_same = ap (λ (x : TraceView M). x.done) view_is

  module _ (what : Event) where
    pub cannot_seen : CanNotTakePlace represents v.now what → IsEventDisabled represents own what
    cannot_seen cannot = cannot_happen represents own later_view failures_same done_same what (subst (λ (x : TraceView M). CanNotTakePlace represents x.now what) view_is cannot)

    pub unchanged_seen : (r : Result (Unit {0}) Refused) → OnErr r (StandsForSameSaving represents v.now cluster) → OnErr r (StaysThere represents own later_view)
    unchanged_seen r same = unchanged_so represents own later_view failures_same done_same what r (subst (λ (x : TraceView M). OnErr r (StandsForSameSaving represents x.now cluster)) view_is same)

    module _ (free : InEachTrace represents own (IsHeldBack own.failures what false)) where
      pub can_seen : CanTakePlace represents v.now what → CanHappenInCall represents own what
      can_seen can = can_happen represents own later_view failures_same done_same what free (subst (λ (x : TraceView M). CanTakePlace represents x.now what) view_is can)

      pub made_seen : (r : Result (Unit {0}) Refused) → OnOk r (TakesPlace represents v.now what cluster) → OnOk r (HappensInCall represents own what later_view)
      made_seen r takes = made_so represents own later_view failures_same done_same what free r (subst (λ (x : TraceView M). OnOk r (TakesPlace represents x.now what cluster)) view_is takes)

      module _ (has : HasTrace represents v) (many : length cluster.machines.items ≡ length v.now.machines.items)
          (r : Result (Unit {0}) Refused) (takes : OnOk r (TakesPlace represents v.now what cluster)) (same : OnErr r (StandsForSameSaving represents v.now cluster)) where
        own_has : HasTrace represents own
        own_has = subst (HasTrace represents) view_is has

        pub kept_since_seen : GoesOnBy what → since ≡ v.since → HasTrace represents later_view
        kept_since_seen none kept =
            kept_since represents own later_view failures_same done_same what (has.many ∙ sym many) own_has none (kept ∙ ap (λ (x : TraceView M). x.since) view_is) r (made_seen r takes) (unchanged_seen r same)

-- where none is asked, none of them is held back
pub record_free : {M : Type 0} (represents : Setting → ℕ → Machine → M → Type 0) (v : TraceView M) → InEachTrace represents v (IsHeldBack v.failures (event.Lead lead.Record) false)
record_free represents v st o events c is = others_held v.failures st o events c (event.Lead lead.Record) refl

-- ---- where it goes back

module _ {M : Type 0} (represents : Setting → ℕ → Machine → M → Type 0) (old new : TraceView M) (failures : new.failures ≡ old.failures) (xs : List M) (engine : Engine) (store : Option StoreView)
    (dones : (a : ℕ) → a < length old.now.machines.items → InEachTrace represents old (λ st o events c. slice_index_or new.done a 0 ≡ completed (c.machine a)))
    (recovered : (st : Setting) (c : Cluster) (base : BaseView) → GoesOnWith represents old.now xs engine store st c base → IsSavingClusterOf represents (going_on st base.numbers base.number) new.now (law.recovers st base c)) where
  module _ (st : Setting) (o : CallOpening) (events : List law.Event) (c : Cluster) (base : BaseView) (goes : GoesBackWith represents old xs engine store st o events c base) where
    abbrev before : Setting
    before = newest_setting st o events

    abbrev again : List law.Event
    again = events ++ law.Recover base ∷ []

    abbrev first : Cluster
    first = law.recovers before base c

    pub goes_on_with : GoesOnWith represents old.now xs engine store before c base
    goes_on_with = record { stood = goes.is.code; may = goes.may; starts = goes.starts }

    ends_here : c ≡ after_events (first_setting st o) events (first_cluster st o)
    ends_here = ends_at events (first_setting st o) (first_cluster st o) c goes.is.trace.trace

    trace_back : IsTraceOfCall st old.failures o.kept o.resumed o.base o.first again first
    trace_back = record {
      is = goes.is.trace.is;
      coloured = goes.is.trace.coloured;
      opened = goes.is.trace.opened;
      trace = trace_append events (law.Recover base ∷ []) (first_setting st o) (first_cluster st o) c first goes.is.trace.trace (goes.may, refl);
      follows = follow_append old.failures events (law.Recover base ∷ []) (first_setting st o) (first_cluster st o) goes.is.trace.follows
          (subst (λ (x : Cluster). FollowJob before old.failures x (law.Recover base ∷ [])) ends_here (goes.follows, tt));
    }

    below : (a : ℕ) → a < st.machines → a < length old.now.machines.items
    below a low =
        let many : length old.now.machines.items ≡ before.machines = goes.is.code.many in
        let same : before.machines ≡ st.machines = ap (λ (s : Setting). s.machines) (behind_since events (first_setting st o)) in
        subst (λ (n : ℕ). a < n) (sym (many ∙ same)) low

    back_now : IsTraceNow represents new st o again first
    back_now = record {
      setting = goes.is.setting;
      trace = subst (λ (fs : List FailureAt). IsTraceOfCall st fs o.kept o.resumed o.base o.first again first) (sym failures) trace_back;
      code = subst (λ (s : Setting). IsSavingClusterOf represents s new.now first) (sym (behind_append events (law.Recover base ∷ []) (first_setting st o))) (recovered before c base goes_on_with);
      done = λ a low. sym (dones a (below a low) st o events c goes.is);
    }

  pub gone_back : HasGoneBack represents old xs engine store new
  gone_back st o events c base goes = back_now st o events c base goes

-- what the type shows of it
module _ {M : Type 0} (represents : Setting → ℕ → Machine → M → Type 0) (v own : TraceView M) (view_is : v ≡ own) (xs : List M) (engine : Engine) (store : Option StoreView) where
  pub again_seen : (st : Setting) × (base : BaseView) × (before : Cluster) × StartsSaving represents xs engine store own.now.next own.now.left st base before →
      (st : Setting) × (base : BaseView) × (before : Cluster) × StartsSaving represents xs engine store v.now.next v.now.left st base before
  again_seen = subst (λ (x : TraceView M). (st : Setting) × (base : BaseView) × (before : Cluster) × StartsSaving represents xs engine store x.now.next x.now.left st base before) (sym view_is)

  module _ (counts : List ℕ) (since cluster : Parts M)
      (dones : (a : ℕ) → a < length own.now.machines.items → InEachTrace represents own (λ st o events c. slice_index_or counts a 0 ≡ completed (c.machine a)))
      (recovered : (st : Setting) (c : Cluster) (base : BaseView) → GoesOnWith represents v.now xs engine store st c base → IsSavingClusterOf represents (going_on st base.numbers base.number) cluster (law.recovers st base c)) where
    abbrev back_view : TraceView M
    back_view = record v { done = counts; since = since; now = cluster }

    dones_inside : (a : ℕ) → a < length v.now.machines.items → InEachTrace represents v (λ st o events c. slice_index_or counts a 0 ≡ completed (c.machine a))
    dones_inside = subst (λ (x : TraceView M). (a : ℕ) → a < length x.now.machines.items → InEachTrace represents x (λ st o events c. slice_index_or counts a 0 ≡ completed (c.machine a))) (sym view_is) dones

    gone_inside : HasGoneBack represents v xs engine store back_view
    gone_inside = gone_back represents v back_view refl xs engine store dones_inside recovered

    pub gone_seen : HasGoneBack represents own xs engine store back_view
    gone_seen = subst (λ (x : TraceView M). HasGoneBack represents x xs engine store back_view) view_is gone_inside

-- it goes on in the same attempt
pub attempt_seen : {M : Type 0} (v own : TraceView M) → v ≡ own → (cluster : Parts M) → length cluster.machines.items ≡ length v.now.machines.items → cluster.stopped ≡ v.now.stopped → IsSameAttempt own (record v { now = cluster })
attempt_seen v own is cluster many stopped = record {
  start = ap (λ x. x.start) is;
  failures = ap (λ x. x.failures) is;
  done = ap (λ x. x.done) is;
  since = ap (λ x. x.since) is;
  many = many ∙ ap (λ x. length x.now.machines.items) is;
  stopped = stopped ∙ ap (λ x. x.now.stopped) is;
}

-- and is remembered
pub attempt_anew : {M : Type 0} (v own : TraceView M) → v ≡ own → (since cluster : Parts M) → length cluster.machines.items ≡ length v.now.machines.items → cluster.stopped ≡ v.now.stopped → since ≡ cluster →
    IsSameAttempt (record own { since = cluster }) (record v { since = since; now = cluster })
attempt_anew v own is since cluster many stopped anew = record {
  start = ap (λ x. x.start) is;
  failures = ap (λ x. x.failures) is;
  done = ap (λ x. x.done) is;
  since = anew;
  many = many ∙ ap (λ x. length x.now.machines.items) is;
  stopped = stopped ∙ ap (λ x. x.now.stopped) is;
}

pub no_stop : (what : Event) → GoesOnBy what → IsNoStop what
no_stop (event.Local what) none = tt
no_stop (event.Lead lead.Record) none = absurd none
no_stop (event.Lead lead.Begin) none = tt
no_stop (event.Lead lead.Step) none = tt
no_stop (event.Lead lead.Wave) none = tt
no_stop (event.Lead lead.Stop) none = absurd none
no_stop (event.Passage what) none = tt

-- it is where it was
module _ {M : Type 0} (represents : Setting → ℕ → Machine → M → Type 0) (v own : TraceView M) (view_is : v ≡ own) (cluster : Parts M) (same : StandsForSameSaving represents v.now cluster) where
  abbrev same_view : TraceView M
  same_view = record v { now = cluster }

  stays_inside : StaysThere represents v same_view
  stays_inside = stays represents v same_view refl refl same

  pub stays_seen : StaysThere represents own same_view
  stays_seen = subst (λ (x : TraceView M). StaysThere represents x same_view) view_is stays_inside

  pub kept_same_seen : HasTrace represents v → length cluster.machines.items ≡ length v.now.machines.items → HasTrace represents same_view
  kept_same_seen has many = record { many = has.many ∙ sym many; goes_on = going_still represents v same_view refl refl refl has stays_inside }

pub on_ok : {X E P Q : Type 0} (r : Result X E) → (P → Q) → OnOk r P → OnOk r Q
on_ok (Ok x) to p = to p
on_ok (Err e) to p = tt

-- nothing has happened since the call opened
pub begun_now : {M : Type 0} (represents : Setting → ℕ → Machine → M → Type 0) (v : TraceView M) → ((a : ℕ) → slice_index_or v.done a 0 ≡ 0) → v.now ≡ v.start →
    (st : Setting) (o : CallOpening) → OpensCall represents v.start v.failures st o → IsTraceNow represents v st o [] (first_cluster st o)
begun_now represents v none same st o opens = record {
  setting = opens.setting;
  trace = record { is = opens.setting.is; coloured = opens.setting.coloured; opened = opens.opened; trace = refl; follows = tt };
  code = subst (λ p. IsSavingClusterOf represents (first_setting st o) p (first_cluster st o)) (sym same) opens.code;
  done = λ a low. opens.opened.done a ∙ sym (none a);
}
