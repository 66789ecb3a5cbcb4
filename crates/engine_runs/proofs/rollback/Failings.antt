-- Machines fail, and nothing else happens.
use Rattle.std.proofs.Common.{◌≡◌, ◌⊎◌, ℕ, zero, suc, ◌<◌, ◌++◌, ◌∙◌, Bool, true, false, List, [], ◌∷◌, append_assoc, arith, length, refl, sym, subst, ⊎_elim}
use Rattle.std.proofs.lemmas.List.{append-nil}
use Rattle.std.specs.Prelude.{Err, Ok, OnErr, Result, slice_index_or}
use Rattle.gl_base.specs.declared.jobs.FailureAt.{FailureAt}
use Rattle.gl_base.specs.declared.numbers.MachineNo.{MachineNo}
use Rattle.cluster_laws.proofs.cluster_core.Basics.{set_at-cases, set_at-here, set_at-kept}
use Rattle.cluster_laws.specs.cluster_model.Clusters.{with_machine}
use Rattle.cluster_laws.specs.cluster_model.Events as law
use Rattle.cluster_laws.specs.cluster_model.Machines.{completed}
use Rattle.cluster_laws.specs.cluster_model.Working.{fails}
use Rattle.cluster_step.specs.trace.Events.{IsEventDisabled, HappensInCall, StaysThere}
use Rattle.cluster_step.specs.declared.clusters.events.Event.TheVariants as event
use Rattle.cluster_step.specs.declared.clusters.events.Local.TheVariants as local
use Rattle.call_laws.specs.whole_calls.Following.{reaches}
use Rattle.engine_runs.specs.rollback.Failing.{ArePassing, CallOpening, Cluster, TraceView, HaveFailedSince, InEachTrace, IsTraceNow, IsSameAttempt, IsSameButFailed, Machine, Setting, has_reached, newest_setting}

pub same_then : {M : Type 0} (a b c : TraceView M) → IsSameAttempt a b → IsSameAttempt b c → IsSameAttempt a c
same_then a b c one other = record {
  start = other.start ∙ one.start;
  failures = other.failures ∙ one.failures;
  done = other.done ∙ one.done;
  since = other.since ∙ one.since;
  many = other.many ∙ one.many;
  stopped = other.stopped ∙ one.stopped;
}

pub same_itself : {M : Type 0} (a : TraceView M) → IsSameAttempt a a
same_itself a = record { start = refl; failures = refl; done = refl; since = refl; many = refl; stopped = refl }

passing_both : (xs ys : List law.Event) → ArePassing xs → ArePassing ys → ArePassing (xs ++ ys)
passing_both [] ys one other = other
passing_both (x ∷ xs) ys one other = (one.0, passing_both xs ys one.1 other)

still_same : (failures : List FailureAt) (c : Cluster) → IsSameButFailed failures c c
still_same failures c = record { base = refl; coordinator = refl; stopped = refl; reached = λ a. refl; failed = λ a is. is }

-- the machine fails
one_failed : (failures : List FailureAt) (c : Cluster) (m : ℕ) → IsSameButFailed failures c (with_machine c m (fails (c.machine m)))
one_failed failures c m = record {
  base = refl;
  coordinator = refl;
  stopped = refl;
  reached = λ a. set_at-kept (λ (x : Machine). reaches failures a x.done (completed x)) c.machine m (fails (c.machine m)) refl a;
  failed = λ a is. set_at-cases (λ (x : Machine). x.failed ≡ true) c.machine m (fails (c.machine m)) a (λ at. refl) (λ off. is);
}

fail_passes : (m : ℕ) → ArePassing (law.Fail m ∷ [])
fail_passes m = ((λ is. absurd (cc), λ base is. absurd (cc)), tt)

apart : false ≡ true → ⊥
apart is = cc

module _ {M : Type 0} (represents : Setting → ℕ → Machine → M → Type 0) where
  -- where it has stayed, no machine has failed
  pub stayed : (old new : TraceView M) (these : ℕ → Type 0) → StaysThere represents old new →
      InEachTrace represents old (λ st o events c. c.stopped ≡ false → (a : ℕ) → these a → has_reached new.failures c a ≡ true → (c.machine a).failed ≡ true) → InEachTrace represents old (HaveFailedSince represents new these)
  stayed old new these still holds st o events c is = record {
    more = [];
    later = c;
    passing = tt;
    now = subst (λ (es : List law.Event). IsTraceNow represents new st o es c) (sym (append-nil events)) (still st o events c is);
    same = still_same new.failures c;
    failed = holds st o events c is;
  }

  pub untouched : (v : TraceView M) (these : ℕ → Type 0) →
      InEachTrace represents v (λ st o events c. c.stopped ≡ false → (a : ℕ) → these a → has_reached v.failures c a ≡ true → (c.machine a).failed ≡ true) → InEachTrace represents v (HaveFailedSince represents v these)
  untouched v these holds = stayed v v these (λ st o events c is. is) holds

  -- the machine has not reached the count, or it had failed
  pub not_reached : (v : TraceView M) (m : ℕ) (reached : Bool) → InEachTrace represents v (λ st o events c. reached ≡ has_reached v.failures c m) → reached ≡ false →
      InEachTrace represents v (λ st o events c. c.stopped ≡ false → (a : ℕ) → a ≡ m → has_reached v.failures c a ≡ true → (c.machine a).failed ≡ true)
  not_reached v m reached is off st o events c here running a at on =
      absurd (apart (sym off ∙ is st o events c here ∙ subst (λ (k : ℕ). has_reached v.failures c k ≡ true) at on))

  pub failed_already : (v : TraceView M) (m : ℕ) (failed : Bool) → InEachTrace represents v (λ st o events c. failed ≡ (c.machine m).failed) → failed ≡ true →
      InEachTrace represents v (λ st o events c. c.stopped ≡ false → (a : ℕ) → a ≡ m → has_reached v.failures c a ≡ true → (c.machine a).failed ≡ true)
  failed_already v m failed is on st o events c here running a at reached = subst (λ (k : ℕ). (c.machine k).failed ≡ true) (sym at) (sym (is st o events c here) ∙ on)

  -- the one machine has failed
  pub failed_one : (old new : TraceView M) (m : MachineNo) → HappensInCall represents old (event.Local (local.Fail m)) new → InEachTrace represents old (HaveFailedSince represents new (λ a. a ≡ m.0))
  failed_one old new m happens st o events c is =
      let has = happens st o events c is in
      let now : IsTraceNow represents new st o (events ++ law.Fail m.0 ∷ []) (law.after_event (newest_setting st o events) c (law.Fail m.0)) =
      subst (λ (e : law.Event). IsTraceNow represents new st o (events ++ e ∷ []) (law.after_event (newest_setting st o events) c e)) has.may.is has.now in
      record {
        more = law.Fail m.0 ∷ [];
        later = with_machine c m.0 (fails (c.machine m.0));
        passing = fail_passes m.0;
        now = now;
        same = one_failed new.failures c m.0;
        failed = λ running a is_m reached. set_at-here (λ (x : Machine). x.failed) c.machine m.0 (fails (c.machine m.0)) a is_m;
      }

  -- fewer machines
  pub fewer : (new : TraceView M) (these those : ℕ → Type 0) → ((a : ℕ) → those a → these a) → (st : Setting) (o : CallOpening) (events : List law.Event) (c : Cluster) → HaveFailedSince represents new these st o events c → HaveFailedSince represents new those st o events c
  fewer new these those less st o events c has = record {
    more = has.more;
    later = has.later;
    passing = has.passing;
    now = has.now;
    same = has.same;
    failed = λ running a is. has.failed running a (less a is);
  }

  -- some fail, and then others
  module _ (mid new : TraceView M) (one other these : ℕ → Type 0) (same : new.failures ≡ mid.failures) (split : (a : ℕ) → these a → one a ⊎ other a) where
    pub both_failed : (st : Setting) (o : CallOpening) (events : List law.Event) (c : Cluster) → HaveFailedSince represents mid one st o events c → InEachTrace represents mid (HaveFailedSince represents new other) → HaveFailedSince represents new these st o events c
    both_failed st o events c first then =
        let second : HaveFailedSince represents new other st o (events ++ first.more) first.later = then st o (events ++ first.more) first.later first.now in
        record {
          more = first.more ++ second.more;
          later = second.later;
          passing = passing_both first.more second.more first.passing second.passing;
          now = subst (λ (es : List law.Event). IsTraceNow represents new st o es second.later) (append_assoc events first.more second.more) second.now;
          same = record {
            base = second.same.base ∙ first.same.base;
            coordinator = second.same.coordinator ∙ first.same.coordinator;
            stopped = second.same.stopped ∙ first.same.stopped;
            reached = λ a. second.same.reached a ∙ subst (λ (fs : List FailureAt). has_reached fs first.later a ≡ has_reached fs c a) (sym same) (first.same.reached a);
            failed = λ a is. second.same.failed a (first.same.failed a is);
          };
          failed = λ running a among reached.
              ⊎_elim
              (λ (is : one a). second.same.failed a (first.failed running a is (subst (λ (fs : List FailureAt). has_reached fs first.later a ≡ true) same (sym (second.same.reached a) ∙ reached))))
              (λ (is : other a). second.failed (first.same.stopped ∙ running) a is reached)
              (split a among);
        }

  -- the machine could not fail: then it had failed, or had not reached the count
  module _ (v : TraceView M) (m : MachineNo) (inside : m.0 < length v.now.machines.items) where
    pub refused_so : IsEventDisabled represents v (event.Local (local.Fail m)) → InEachTrace represents v (λ st o events c. (c.machine m.0).failed ≡ false) →
        InEachTrace represents v (λ st o events c. c.stopped ≡ false → (a : ℕ) → a ≡ m.0 → has_reached v.failures c a ≡ true → (c.machine a).failed ≡ true)
    refused_so cannot runs st o events c is running a at reached =
        let last : Setting = newest_setting st o events in
        let low : m.0 < last.machines = subst (λ (n : ℕ). m.0 < n) is.code.many inside in
        let here : has_reached v.failures c m.0 ≡ true = subst (λ (k : ℕ). has_reached v.failures c k ≡ true) at reached in
        absurd (cannot st o events c is (law.Fail m.0) (record { is = refl; may = (running, record { machine = low; runs = runs st o events c is }); follows = here }))

pub on_err : {X E P : Type 0} (r : Result X E) → P → OnErr r P
on_err (Ok x) is = tt
on_err (Err e) is = is

-- one more behind a list
pub grown : {X : Type 0} (P : ℕ → X → Type 0) (d : X) (xs : List X) (x : X) → ((a : ℕ) → a < length xs → P a (slice_index_or xs a d)) → P (length xs) x → (a : ℕ) → a < suc (length xs) → P a (slice_index_or (xs ++ x ∷ []) a d)
grown P d [] x all one zero low = one
grown P d [] x all one (suc a) low = absurd (none a low)
  where
    none : (a : ℕ) → suc a < suc zero → ⊥
    none a low = omega arith
grown P d (y ∷ xs) x all one zero low = all zero (first (length xs))
  where
    first : (n : ℕ) → zero < suc n
    first n = omega arith
grown P d (y ∷ xs) x all one (suc a) low = grown (λ n. P (suc n)) d xs x (λ b below. all (suc b) (more b (length xs) below)) one a (less a (length xs) low)
  where
    more : (b n : ℕ) → b < n → suc b < suc n
    more b n below = omega arith

    less : (a n : ℕ) → suc a < suc (suc n) → a < suc n
    less a n low = omega arith
