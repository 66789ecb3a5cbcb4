-- The course of a call goes on by an update at once.
use Rattle.std.proofs.Common.{◌≡◌, ℕ, suc, ◌+◌, ◌==◌, ◌++◌, Bool, true, false, if◌then◌else◌, Option, None, Some, List, [], ◌∷◌, length, map, refl, sym, ap, append_assoc, subst, inr, ◌∙◌}
use Rattle.std.specs.Prelude.{Err, IfOk, Ok, OnErr, Result, slice_index_or}
use Rattle.gl_base.specs.declared.jobs.FailureAt.{FailureAt}
use Rattle.gl_base.specs.declared.numbers.MachineNo.{MachineNo}
use Rattle.gl_base.specs.declared.numbers.Vertex.{Vertex}
use Rattle.gl_base.specs.declared.refusals.Refused.{Refused}
use Rattle.gl_base.specs.declared.scopes.Claim.{Claim}
use Rattle.gl_base.specs.declared.scopes.ScopeId.{ScopeId}
use Rattle.cluster_laws.specs.cluster_core.Effects.{admitted_by, asks_for, first_granted, goes_away, goes_on, in_flight, moves_on, next_scope, posts, sets_out, takes_lock}
use Rattle.cluster_laws.specs.cluster_core.Messages.{Ask, Ready}
use Rattle.cluster_laws.specs.cluster_core.Parts.{Part, Stand}
use Rattle.cluster_laws.specs.cluster_core.Scopes.{machines_from, own_from, set_for}
use Rattle.cluster_laws.specs.cluster_core.Settings.{Chromatic, Engine, Locking}
use Rattle.cluster_laws.proofs.cluster_core.Basics.{set_at-same}
use Rattle.call_laws.proofs.cluster_attempts.Joining.{done_kept}
use Rattle.whole_laws.proofs.cluster_ending.Traces.{setting_same}
use Rattle.cluster_laws.specs.cluster_model.Events as law
use Rattle.cluster_laws.specs.cluster_model.Working.{admits, grants, prompt}
use Rattle.whole_laws.specs.cluster_records.LineOfFour.{after_events}
use Rattle.whole_laws.specs.cluster_whole.Whole.{setting_behind}
use Rattle.cluster_step.specs.clusters.AtOnce.{CanNotTakePlaceAtOnce, CanTakePlaceAtOnce, IsMadeAtOnce, TakesPlaceAtOnce, events_at_once, locks_at_once}
use Rattle.cluster_step.specs.clusters.Clusters.{StandsForSameSaving}
use Rattle.cluster_step.specs.trace.AtOnce.{CanHappenAtOnceInCall, IsLocalUpdateDisabled, HappensAtOnceInCall}
use Rattle.cluster_step.specs.trace.Traces.{ArePassing, CallOpening, Cluster, TraceGoesOn, TraceView, HasTrace, InEachTrace, IsTraceNow, IsSavingClusterOf, Machine, Parts, Setting, as_since, first_cluster, first_setting, newest_setting}
use Rattle.cluster_step.specs.trace.Events.{StaysThere}
use Rattle.cluster_step.proofs.trace.Going.{behind_append, ends_at, going_still, setting_now, since_back, stays}
use Rattle.call_laws.specs.whole_calls.Following.{FollowJob, has_reached, reaches}
use Rattle.call_laws.specs.whole_calls.Opened.{IsTraceOfCall}
use Rattle.call_laws.proofs.whole_calls.WorkedPair.{trace_append, follow_append}

-- ---- as a scope is admitted and goes on, the log stays

away_log : (a : ℕ) (s : ScopeId) (v : ℕ) (rest : List ℕ) (part : Part) → (goes_away a s v rest part).log ≡ part.log
away_log a s v (b ∷ rest) part = refl
away_log a s v [] part = by (s.home.0 == a)
  where
    by : (b : Bool) → (if b then record part { ready = set_for part.ready s true } else posts s.home.0 (Ready s) part).log ≡ part.log
    by true = refl
    by false = refl

asks_log : (a : ℕ) (s : ScopeId) (v : ℕ) (rest : List ℕ) (first : Option ℕ) (part : Part) → (asks_for a s v rest first part).log ≡ part.log
asks_log a s v rest (Some x) part = refl
asks_log a s v rest None part = away_log a s v rest (record part { stand = set_for part.stand s None })

on_log : (st : Setting) (a : ℕ) (s : ScopeId) (v k : ℕ) (rest : List ℕ) (part : Part) → (goes_on st a s v k rest part).log ≡ part.log
on_log st a s v k rest part = asks_log a s v rest (own_from st v a k) part

out_log : (st : Setting) (a : ℕ) (s : ScopeId) (v : ℕ) (machines : List ℕ) (part : Part) → (sets_out st a s v machines part).log ≡ part.log
out_log st a s v [] part = refl
out_log st a s v (b ∷ rest) part = by (b == a)
  where
    by : (test : Bool) → (if test then goes_on st a s v 0 rest part else posts b (Ask s v rest) part).log ≡ part.log
    by true = on_log st a s v 0 rest part
    by false = refl

admit_log : (engine : Engine) (st : Setting) (a v : ℕ) (part : Part) → (admitted_by engine st a v part).log ≡ part.log
admit_log Locking st a v part = out_log st a (next_scope a part) v (machines_from st v 0) (in_flight a v part)
admit_log (Chromatic colour colours) st a v part = refl

moves_log : (st : Setting) (a x : ℕ) (c : Claim) (stand : Option Stand) (part : Part) → (moves_on st a x c stand part).log ≡ part.log
moves_log st a x c None part = refl
moves_log st a x c (Some stand) part = on_log st a c.scope stand.centre (suc x) stand.rest part

first_log : (st : Setting) (a x : ℕ) (claims : List Claim) (part : Part) → (first_granted st a x claims part).log ≡ part.log
first_log st a x [] part = refl
first_log st a x (c ∷ queue) part = moves_log st a x c (part.stand c.scope) (takes_lock x c queue part)

-- ---- so the machine reaches the count of no failure before its update

module _ (st : Setting) (failures : List FailureAt) (a : ℕ) where
  reached_with : (c : Cluster) (m : Machine) → m.done ≡ (c.machine a).done → m.part.log ≡ (c.machine a).part.log → (new : Cluster) → new.machine a ≡ m → has_reached failures new a ≡ has_reached failures c a
  reached_with c m done log new is =
      let dones : (new.machine a).done ≡ (c.machine a).done = ap (λ (n : Machine). n.done) is ∙ done in
      let logs : (new.machine a).part.log ≡ (c.machine a).part.log = ap (λ (n : Machine). n.part.log) is ∙ log in
      λ i. reaches failures a (dones i) (dones i + length (logs i))

  admit_reached : (c : Cluster) (v : ℕ) → has_reached failures (law.after_event st c (law.Admit a v)) a ≡ has_reached failures c a
  admit_reached c v =
      let m : Machine = prompt st a (admits st a v (c.machine a)) in
      reached_with c m refl (admit_log st.engine st a v (c.machine a).part) (law.after_event st c (law.Admit a v)) (set_at-same c.machine a m)

  grant_reached : (c : Cluster) (x : ℕ) → has_reached failures (law.after_event st c (law.Grant a x)) a ≡ has_reached failures c a
  grant_reached c x =
      let m : Machine = prompt st a (grants st a x (c.machine a)) in
      reached_with c m refl (first_log st a x ((c.machine a).part.queue x) (c.machine a).part) (law.after_event st c (law.Grant a x)) (set_at-same c.machine a m)

  grants_follow : (xs : List ℕ) (s : ScopeId) → s.home.0 ≡ a → (c : Cluster) → has_reached failures c a ≡ false → FollowJob st failures c (map (law.Grant a) xs ++ law.Update s ∷ [])
  grants_follow [] s home c free = (ap (has_reached failures c) home ∙ free, tt)
  grants_follow (x ∷ xs) s home c free = (tt, grants_follow xs s home (law.after_event st c (law.Grant a x)) (grant_reached c x ∙ free))

  -- they follow the job
  pub follow_at_once : (c : Cluster) (v : ℕ) → has_reached failures c a ≡ false → FollowJob st failures c (events_at_once st a v (c.machine a))
  follow_at_once c v free = (tt, grants_follow (locks_at_once st v a) (next_scope a (c.machine a).part) refl (law.after_event st c (law.Admit a v)) (admit_reached c v ∙ free))

-- ---- what these events are

grants_pass : (a : ℕ) (xs : List ℕ) (s : ScopeId) → ArePassing (map (law.Grant a) xs ++ law.Update s ∷ [])
grants_pass a [] s = ((λ is. cc, λ base is. cc), tt)
grants_pass a (x ∷ xs) s = ((λ is. cc, λ base is. cc), grants_pass a xs s)

pass_at_once : (st : Setting) (a v : ℕ) (m : Machine) → ArePassing (events_at_once st a v m)
pass_at_once st a v m = ((λ is. cc, λ base is. cc), grants_pass a (locks_at_once st v a) (next_scope a m.part))

passing_both : (xs ys : List law.Event) → ArePassing xs → ArePassing ys → ArePassing (xs ++ ys)
passing_both [] ys one other = other
passing_both (x ∷ xs) ys one other = (one.0, passing_both xs ys one.1 other)

-- the setting stays
passing_setting : (events : List law.Event) → ArePassing events → (st : Setting) → setting_behind st events ≡ st
passing_setting [] all st = refl
passing_setting (e ∷ events) all st = ap (λ (s : Setting). setting_behind s events) (setting_same st e all.0.1) ∙ passing_setting events all.1 st

-- and so does what machines had completed before
passing_done : (events : List law.Event) → ArePassing events → (st : Setting) (c new : Cluster) → law.IsTrace st c events new → (a : ℕ) → (new.machine a).done ≡ (c.machine a).done
passing_done [] all st c new trace a = ap (λ (x : Cluster). (x.machine a).done) trace
passing_done (e ∷ events) all st c new trace a =
    passing_done events all.1 st (law.after_event st c e) new (subst (λ (s : Setting). law.IsTrace s (law.after_event st c e) events new) (setting_same st e all.0.1) trace.1) a
    ∙ done_kept st c a e trace.0.1 all.0.1

-- ---- the course goes on by them

module _ {M : Type 0} (represents : Setting → ℕ → Machine → M → Type 0) (old new : TraceView M) (failures : new.failures ≡ old.failures) (done : new.done ≡ old.done) where
  module _ (st : Setting) (o : CallOpening) (events : List law.Event) (c : Cluster) (is : IsTraceNow represents old st o events c) where
    abbrev now : Setting
    now = newest_setting st o events

    module _ (more : List law.Event) (passing : ArePassing more) (led : Cluster) (trace : law.IsTrace now c more led) (follows : FollowJob now old.failures c more) (code : IsSavingClusterOf represents now new.now led) where
      abbrev later : List law.Event
      later = events ++ more

      still_set : newest_setting st o later ≡ now
      still_set = behind_append events more (first_setting st o) ∙ passing_setting more passing now

      ends : c ≡ after_events (first_setting st o) events (first_cluster st o)
      ends = ends_at events (first_setting st o) (first_cluster st o) c is.trace.trace

      trace_of : IsTraceOfCall st old.failures o.kept o.resumed o.base o.first later led
      trace_of =
          record {
            is = is.trace.is;
            coloured = is.trace.coloured;
            opened = is.trace.opened;
            trace = trace_append events more (first_setting st o) (first_cluster st o) c led is.trace.trace trace;
            follows = follow_append old.failures events more (first_setting st o) (first_cluster st o) is.trace.follows (subst (λ (x : Cluster). FollowJob now old.failures x more) ends follows);
          }

      goes_by : IsTraceNow represents new st o later led
      goes_by =
          record {
            setting = is.setting;
            trace = subst (λ (fs : List FailureAt). IsTraceOfCall st fs o.kept o.resumed o.base o.first later led) (sym failures) trace_of;
            code = subst (λ (s : Setting). IsSavingClusterOf represents s new.now led) (sym still_set) code;
            done = λ a low. passing_done more passing now c led trace a ∙ is.done a low ∙ ap (λ (ds : List ℕ). slice_index_or ds a 0) (sym done);
          }

  happens_at_once : (a v : ℕ) → InEachTrace represents old (λ st o events c. has_reached old.failures c a ≡ false) → TakesPlaceAtOnce represents old.now a v new.now → HappensAtOnceInCall represents old a v new
  happens_at_once a v free takes st o events c is =
      let last : Setting = newest_setting st o events in
      let has : IsMadeAtOnce represents last c a v new.now = takes last c (setting_now st o events is.setting) is.code in
      record {
        free = free st o events c is;
        may = has.may;
        later = has.after;
        now = goes_by st o events c is (events_at_once last a v (c.machine a)) (pass_at_once last a v (c.machine a)) has.after has.trace
            (follow_at_once last old.failures a c v (free st o events c is)) has.code;
      }

  going_at_once : new.since ≡ old.since → HasTrace represents old → (a v : ℕ) → HappensAtOnceInCall represents old a v new → TraceGoesOn represents (as_since new) new
  going_at_once since has a v all st o events c is =
      let before = has.goes_on st o events c (since_back represents old new failures since done st o events c is) in
      let next = all st o (events ++ before.0) before.1 before.3 in
      let more : List law.Event = events_at_once (newest_setting st o (events ++ before.0)) a v (before.1.machine a) in (
        before.0 ++ more,
        next.later,
        passing_both before.0 more before.2 (pass_at_once (newest_setting st o (events ++ before.0)) a v (before.1.machine a)),
        subst (λ (es : List law.Event). IsTraceNow represents new st o es next.later) (append_assoc events before.0 more) next.now,
      )

-- ---- what the call answers, as the type shows it

module _ {M : Type 0} (represents : Setting → ℕ → Machine → M → Type 0) (v own : TraceView M) (view_is : v ≡ own) (since cluster : Parts M) (at : MachineNo) where
  abbrev later_view : TraceView M
  later_view = record v { since = since; now = cluster }

  failures_same : later_view.failures ≡ own.failures
  failures_same = ap (λ (x : TraceView M). x.failures) view_is

  done_same : later_view.done ≡ own.done
  done_same = ap (λ (x : TraceView M). x.done) view_is

  pub cannot_at_once : CanNotTakePlaceAtOnce represents v.now at → IsLocalUpdateDisabled represents own at
  cannot_at_once cannot = inr (subst (λ (x : TraceView M). CanNotTakePlaceAtOnce represents x.now at) view_is cannot)

  pub unchanged_at_once : (r : Result Vertex Refused) → OnErr r (StandsForSameSaving represents v.now cluster) → OnErr r (StaysThere represents own later_view)
  unchanged_at_once (Ok x) same = tt
  unchanged_at_once (Err e) same = stays represents own later_view failures_same done_same (subst (λ (x : TraceView M). StandsForSameSaving represents x.now cluster) view_is same)

  module _ (free : InEachTrace represents own (λ st o events c. has_reached own.failures c at.0 ≡ false)) where
    pub can_at_once : CanTakePlaceAtOnce represents v.now at.0 → CanHappenAtOnceInCall represents own at.0
    can_at_once can =
        let here : CanTakePlaceAtOnce represents own.now at.0 = subst (λ (x : TraceView M). CanTakePlaceAtOnce represents x.now at.0) view_is can in
        (here.0, λ st o events c is. (here.1 (newest_setting st o events) c (setting_now st o events is.setting) is.code, free st o events c is))

    pub made_at_once : (r : Result Vertex Refused) → IfOk r (λ x. TakesPlaceAtOnce represents v.now at.0 x.0 cluster) → IfOk r (λ x. HappensAtOnceInCall represents own at.0 x.0 later_view)
    made_at_once (Ok x) takes = happens_at_once represents own later_view failures_same done_same at.0 x.0 free (subst (λ (y : TraceView M). TakesPlaceAtOnce represents y.now at.0 x.0 cluster) view_is takes)
    made_at_once (Err e) takes = tt

    pub kept_at_once : HasTrace represents v → length cluster.machines.items ≡ length v.now.machines.items → since ≡ v.since → (r : Result Vertex Refused)
        → IfOk r (λ x. TakesPlaceAtOnce represents v.now at.0 x.0 cluster) → OnErr r (StandsForSameSaving represents v.now cluster) → HasTrace represents later_view
    kept_at_once has many kept (Ok x) takes same =
        record {
          many = has.many ∙ sym many;
          goes_on = going_at_once represents own later_view failures_same done_same (kept ∙ ap (λ (y : TraceView M). y.since) view_is) (subst (HasTrace represents) view_is has) at.0 x.0 (made_at_once (Ok x) takes);
        }
    kept_at_once has many kept (Err e) takes same =
        record {
          many = has.many ∙ sym many;
          goes_on = going_still represents own later_view failures_same (kept ∙ ap (λ (y : TraceView M). y.since) view_is) done_same (subst (HasTrace represents) view_is has) (unchanged_at_once (Err e) same);
        }
