-- A store keeps up where machines fail, and where all go back.
use Rattle.std.proofs.Common.{◌≡◌, Option, ℕ, ◌+◌, ◌*◌, ◌<◌, ◌≤◌, ◌++◌, ◌∙◌, true, false, List, [], ◌∷◌, ap, arith, filter, if◌then◌else◌, length, refl, subst, sym}
use Rattle.gl_base.specs.declared.entries.Entry.{Entry}
use Rattle.gl_base.specs.declared.jobs.FailureAt.{FailureAt}
use Rattle.cluster_step.specs.trace.Traces.{HasGoneBack, first_setting}
use Rattle.coordinator.specs.declared.coord_core.steps.Engine.{Engine}
use Rattle.cluster_step.proofs.trace.Passing.{pass_fronts, pass_lost, pass_records, recover_fronts, recover_lost, recover_records}
use Rattle.cluster_laws.specs.cluster_model.Events as law
use Rattle.cluster_laws.specs.cluster_model.Leading.{Coordinator, Snapshot}
use Rattle.cluster_laws.specs.cluster_model.Totals.{total}
use Rattle.whole_laws.proofs.cluster_whole.Flows.{total_from-all_none}
use Rattle.recovery.specs.Journals.{records_size}
use Rattle.engine_runs.specs.stores.Stores.{KeepsUp, first_cluster, fronts_in, recorded_in}
use Rattle.update_api.specs.Updates.{Update}
use Rattle.call_laws.proofs.whole_calls.Leading.{behind_since}
use Rattle.call_laws.specs.whole_calls.Lost.{AreLostIn}
use Rattle.engine_runs.specs.rollback.Failing.{CallOpening, Cluster, TraceView, HaveFailedSince, Machine, Setting, has_reached, newest_setting}
use Rattle.engine_runs.specs.rollback.Returning.{BaseView, AnyMachine, RestartsFrom, HasFailures, HasReachedSome, Header, IsAnyMachineOf, IsKnownTrace, StoreView, is_restart}

-- a setting has as many machines in each attempt
pub machines_same : (st : Setting) (o : CallOpening) (events : List law.Event) → (newest_setting st o events).machines ≡ st.machines
machines_same st o events = ap (λ (s : Setting). s.machines) (behind_since events (first_setting st o))

module _ {M : Type 0} (represents : Setting → ℕ → Machine → M → Type 0) (old new : TraceView M) (failures : new.failures ≡ old.failures) (header : Header) (start bodies : List (List ℕ)) (lost stored front order : List Entry) (st : Setting) (o : CallOpening) where
  -- where machines fail
  pub known_on : (these : ℕ → Type 0) (known : IsKnownTrace represents old header start bodies lost stored front order st o) → HaveFailedSince represents new these st o known.was.events known.was.cluster → IsKnownTrace represents new header start bodies lost stored front order st o
  known_on these known fails =
      let events : List law.Event = known.was.events in
      let all : List law.Event = events ++ fails.more in
      record {
        kept = known.kept;
        was = record {
          events = all;
          cluster = fails.later;
          now = fails.now;
          keeps = subst (λ (fs : List FailureAt). KeepsUp st fs header start (fronts_in (first_setting st o) (first_cluster st o) all) (recorded_in (first_setting st o) (first_cluster st o) all) bodies) (sym failures)
              (subst (λ (fronts : List (List Entry)). KeepsUp st old.failures header start fronts (recorded_in (first_setting st o) (first_cluster st o) all) bodies) (sym (pass_fronts st o events fails.more fails.passing))
              (subst (λ (taken : List Snapshot). KeepsUp st old.failures header start (fronts_in (first_setting st o) (first_cluster st o) events) taken bodies) (sym (pass_records st o events fails.more fails.passing)) known.was.keeps));
          taken = pass_lost st o events fails.more fails.passing lost known.was.taken;
        };
        fits = known.fits;
        stored_are = known.stored_are;
        base = ap (λ (b : BaseView). b.order) fails.same.base ∙ known.base;
        front_are = known.front_are;
        count = ap (λ (k : Coordinator). k.acknowledged) fails.same.coordinator ∙ known.count;
        place = subst (λ (k : Coordinator). k.store_end + 16 * length stored ≡ 65 + records_size bodies + 16 * length front) (sym fails.same.coordinator) known.place;
      }

  -- each that has reached a count has failed, and one has
  module _ (known : IsKnownTrace represents old header start bodies lost stored front order st o) (runs : old.now.stopped ≡ false) (some : HasReachedSome old st known.was.cluster)
      (fails : HaveFailedSince represents new (λ a. a < length old.now.machines.items) st o known.was.events known.was.cluster) where
    running : known.was.cluster.stopped ≡ false
    running = known.was.now.code.stopped ∙ runs

    inside : (a : ℕ) → a < st.machines → a < length old.now.machines.items
    inside a low =
        let many : length old.now.machines.items ≡ (newest_setting st o known.was.events).machines = known.was.now.code.many in
        subst (λ (n : ℕ). a < n) (sym (many ∙ machines_same st o known.was.events)) low

    each : (a : ℕ) → a < st.machines → has_reached new.failures fails.later a ≡ true → (fails.later.machine a).failed ≡ true
    each a low reached = fails.failed running a (inside a low) reached

    first_failed : (fails.later.machine some.0).failed ≡ true
    first_failed = each some.0 some.1 (fails.same.reached some.0 ∙ subst (λ (fs : List FailureAt). has_reached fs known.was.cluster some.0 ≡ true) (sym failures) some.2)

    abbrev one_where : ℕ → ℕ
    one_where a = if (fails.later.machine a).failed then 1 else 0

    one_counts : one_where some.0 ≡ 1
    one_counts = rw first_failed refl

    positive : (n : ℕ) → (n ≡ 0 → ⊥) → 0 < n
    positive n none = omega (arith, none)

    apart : (n : ℕ) → n ≡ 1 → n ≡ 0 → ⊥
    apart n one none = omega (arith, one, none)

    pub have_failures : HasFailures new st fails.later
    have_failures = record {
      running = fails.same.stopped ∙ running;
      some = positive (law.failures_in st fails.later) (λ none. apart (one_where some.0) one_counts (total_from-all_none 0 st.machines one_where none some.0 (low_zero some.0) (subst (λ (n : ℕ). some.0 < n) (sym (from_zero st.machines)) some.1)));
      each = each;
    }
      where
        from_zero : (n : ℕ) → 0 + n ≡ n
        from_zero n = omega arith

        low_zero : (a : ℕ) → 0 ≤ a
        low_zero a = omega arith

  -- so there is a course in which all may go back
  pub known_failed : (known : IsKnownTrace represents old header start bodies lost stored front order st o) → old.now.stopped ≡ false → HasReachedSome old st known.was.cluster →
      HaveFailedSince represents new (λ a. a < length old.now.machines.items) st o known.was.events known.was.cluster →
      (after : IsKnownTrace represents new header start bodies lost stored front order st o) × HasFailures new st after.was.cluster
  unfolding known_on
  known_failed known runs some fails = (known_on (λ a. a < length old.now.machines.items) known fails, have_failures known runs some fails)

-- where all go back
module _ {P : Type 0} (meaning : P → Update) (old new : TraceView (AnyMachine P)) (failures : new.failures ≡ old.failures) (header : Header) (start bodies : List (List ℕ)) (lost later stored front ahead before order : List Entry) (st : Setting) (o : CallOpening)
    (machines : List (AnyMachine P)) (engine : Engine) (store : Option StoreView) where
  pub known_back : (known : IsKnownTrace (IsAnyMachineOf meaning) old header start bodies lost stored front before st o) → RestartsFrom meaning old machines engine store order lost later front ahead st o known.was.events known.was.cluster →
      HasGoneBack (IsAnyMachineOf meaning) old machines engine store new → IsKnownTrace (IsAnyMachineOf meaning) new header start bodies later stored ahead order st o
  known_back known goes gone_back =
      let events : List law.Event = known.was.events in
      let c : Cluster = known.was.cluster in
      let all : List law.Event = events ++ law.Recover goes.to ∷ [] in
      record {
        kept = known.kept;
        was = record {
          events = all;
          cluster = law.recovers (newest_setting st o events) goes.to c;
          now = gone_back st o events c goes.to goes.back;
          keeps = subst (λ (fs : List FailureAt). KeepsUp st fs header start (fronts_in (first_setting st o) (first_cluster st o) all) (recorded_in (first_setting st o) (first_cluster st o) all) bodies) (sym failures)
              (subst (λ (fronts : List (List Entry)). KeepsUp st old.failures header start fronts (recorded_in (first_setting st o) (first_cluster st o) all) bodies) (sym (recover_fronts st o events c known.was.now.trace.trace goes.to))
              (subst (λ (taken : List Snapshot). KeepsUp st old.failures header start (fronts_in (first_setting st o) (first_cluster st o) events) taken bodies) (sym (recover_records st o events c known.was.now.trace.trace goes.to)) known.was.keeps));
          taken = subst (AreLostIn (first_setting st o) (first_cluster st o) all) (sym goes.later_is) (recover_lost st o events c known.was.now.trace.trace goes.to lost goes.gone known.was.taken goes.takes);
        };
        fits = known.fits;
        stored_are = known.stored_are;
        base = goes.order_is;
        front_are = goes.front_is ∙ ap (filter is_restart) goes.order_is;
        count = goes.number ∙ known.count;
        place = placed (c.coordinator.store_end) (law.failures_in (newest_setting st o events) c) (length stored) (records_size bodies) (length front) (length ahead) known.place
            (goes.more ∙ ap (λ (n : ℕ). length front + n) (sym (ap (λ (n : ℕ). total n (λ a. if (c.machine a).failed then 1 else 0)) (machines_same st o events))));
      }
    where
      placed : (end failed stored size front ahead : ℕ) → end + 16 * stored ≡ 65 + size + 16 * front → ahead ≡ front + failed → (end + 16 * failed) + 16 * stored ≡ 65 + size + 16 * ahead
      placed end failed stored size front ahead before is = omega (arith, before, is)

-- where the lost updates were read
pub lost_read : {P : Type 0} (meaning : P → Update) (v : TraceView (AnyMachine P)) (header : Header) (start bodies : List (List ℕ)) (read lost later stored front ahead before order : List Entry) (st : Setting) (o : CallOpening) (machines : List (AnyMachine P)) (engine : Engine) (store : Option StoreView) →
    read ≡ lost →
    ((known : IsKnownTrace (IsAnyMachineOf meaning) v header start bodies read stored front before st o) → HasFailures v st known.was.cluster → RestartsFrom meaning v machines engine store order read later front ahead st o known.was.events known.was.cluster) →
    (known : IsKnownTrace (IsAnyMachineOf meaning) v header start bodies lost stored front before st o) → HasFailures v st known.was.cluster → RestartsFrom meaning v machines engine store order lost later front ahead st o known.was.events known.was.cluster
lost_read meaning v header start bodies read lost later stored front ahead before order st o machines engine store is goes =
    subst
    (λ (es : List Entry).
    (known : IsKnownTrace (IsAnyMachineOf meaning) v header start bodies es stored front before st o) → HasFailures v st known.was.cluster → RestartsFrom meaning v machines engine store order es later front ahead st o known.was.events known.was.cluster)
    is goes
