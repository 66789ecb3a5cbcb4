-- A cluster in the course of a call, event by event.
use Rattle.std.proofs.Common.{◌≡◌, ◌≢◌, ℕ, ◌+◌, ◌<◌, ◌≤◌, nat_le, nat_lt, Bool, true, false, if◌then◌else◌, List, [], ◌∷◌, ◌++◌, length, refl, sym, ◌∙◌, ap, ap₂, subst, ⊎_elim, append-nil, length-append, arith}
use Rattle.std.specs.List.{AllByRecursion}
use Rattle.std.proofs.lemmas.Bool.{and_from, and_parts, cases_eq, cases_lt, false_from_ne_true, le-leb, leb-true, ltb-true}
use Rattle.std.proofs.lemmas.List.Elements.{filter-append}
use Rattle.gl_base.specs.declared.entries.Entry.{Entry}
use Rattle.gl_base.specs.declared.jobs.FailureAt.{FailureAt}
use Rattle.gl_base.specs.declared.scopes.ScopeId.{ScopeId}
use Rattle.graph_core.proofs.HalvesLaws.{each-append}
use Rattle.call_laws.specs.attempts.Beginnings.{KeepsWindow}
use Rattle.call_laws.specs.attempts.EngineCalls.{begins_behind}
use Rattle.call_laws.specs.cluster_attempts.CallsSoFar.{IsCallSoFar, attempt_of}
use Rattle.call_laws.specs.cluster_attempts.Failures.{FailAsOrdered, StopsAtCount, done_before, done_now}
use Rattle.call_laws.proofs.cluster_attempts.Joining.{done_kept, quiet_so, recover_so, update_so}
use Rattle.call_laws.proofs.cluster_attempts.Making.{logs_are}
use Rattle.cluster_laws.specs.cluster_core.Replays.{entries_of, is_of}
use Rattle.cluster_laws.specs.cluster_core.Settings.{IsSetting, Setting}
use Rattle.cluster_laws.specs.cluster_model.Clusters.{BaseView, Cluster}
use Rattle.cluster_laws.specs.cluster_model.Events.{Event, Fail, GoesBackTo, MayDo, Recover, Update, after_event, recovers, setting_after}
use Rattle.cluster_laws.specs.cluster_runs.Attempts.{Attempt, Beginning, is_reached}
use Rattle.cluster_laws.specs.cluster_runs.Recorded.{shared_of}
use Rattle.whole_laws.specs.cluster_whole.Logged.{Logged, all_entries}
use Rattle.whole_laws.specs.cluster_whole.Whole.{IsNoRecovery, IsWhole}
use Rattle.whole_laws.proofs.cluster_whole.Flows.{total_from-same}
use Rattle.whole_laws.specs.cluster_records.Bases.{IsBased}
use Rattle.whole_laws.specs.cluster_records.Recorded.{IsAccounted}
use Rattle.whole_laws.specs.cluster_records.Wanting.{AreAsking}
use Rattle.whole_laws.proofs.cluster_records.Accounts.{quiet_kept, update_kept}
use Rattle.whole_laws.proofs.cluster_records.Asking.{events_asking, update_asking}
use Rattle.whole_laws.proofs.cluster_records.Based.{next_base, still_based, update_based}
use Rattle.whole_laws.proofs.cluster_records.Traces.{are_coloured, begun}
use Rattle.whole_laws.proofs.cluster_records.Entering.{IsNoUpdate, own_logged, update_logged}
use Rattle.whole_laws.proofs.cluster_records.Fewness.{begun_asking}
use Rattle.whole_laws.proofs.cluster_records.Filtering.{all-more, other_entry, own_entry}
use Rattle.call_laws.specs.whole_calls.Following.{AreJobFailures, FollowsJob, has_reached, reaches}
use Rattle.call_laws.proofs.whole_calls.Failed.{failed_by}
use Rattle.call_laws.proofs.whole_calls.Reaching.{is_within, none_reached, one_at, reached_many}
use Rattle.call_laws.proofs.whole_calls.Windowed.{unheld_few}

-- Attempts failed, each within the window; each update of the newest one is logged; and machines stop, and fail, at the counts of failures.
pub record IsInCall (failures : List FailureAt) (start : Beginning) (st : Setting) (c : Cluster) (logged : List Logged) (failed : List Attempt) : Type 0 where
  pub is : IsSetting st
  pub whole : IsWhole st c
  pub account : IsAccounted st c whole logged
  pub based : IsBased st c logged
  pub asking : AreAsking st c logged
  pub so : IsCallSoFar (shared_of st failures) start c logged failed
  pub windows : st.stored ≡ true → AllByRecursion (KeepsWindow st.window) failed
  pub ordered : AreJobFailures st.machines failures
  pub stops : AllByRecursion (StopsAtCount c) failures
  pub fails : (a : ℕ) → (c.machine a).failed ≡ true → has_reached failures c a ≡ true

-- ---- where machines stop

-- the same counts, the same stops
stops_as : (failures : List FailureAt) (before now later_before later : ℕ → ℕ) → before ≡ later_before → now ≡ later →
    AllByRecursion (λ (failure : FailureAt). is_reached before now failure ≡ true → now failure.machine.0 ≡ failure.after) failures →
    AllByRecursion (λ (failure : FailureAt). is_reached later_before later failure ≡ true → later failure.machine.0 ≡ failure.after) failures
stops_as failures before now later_before later one other stops =
    subst (λ (n : ℕ → ℕ). AllByRecursion (λ (failure : FailureAt). is_reached later_before n failure ≡ true → n failure.machine.0 ≡ failure.after) failures) other
    (subst (λ (b : ℕ → ℕ). AllByRecursion (λ (failure : FailureAt). is_reached b now failure ≡ true → now failure.machine.0 ≡ failure.after) failures) one stops)

not_within : (n k : ℕ) → n < k → k ≤ n → ⊥
not_within n k one other = omega arith

within_parts : (before now : ℕ) (failure : FailureAt) → is_within before now failure ≡ true → (before < failure.after) × (failure.after ≤ now)
within_parts before now failure is =
    let both = and_parts (nat_lt before failure.after) (nat_le failure.after now) is in (ltb-true before failure.after both.0, leb-true failure.after now both.1)

-- who made no update stops nowhere
pub stops_first : (failures : List FailureAt) (before now : ℕ → ℕ) → ((m : ℕ) → now m ≡ before m) →
    AllByRecursion (λ (failure : FailureAt). is_reached before now failure ≡ true → now failure.machine.0 ≡ failure.after) failures
stops_first [] before now same = tt
stops_first (failure ∷ failures) before now same = (
  λ is.
      let m : ℕ = failure.machine.0 in
      let both = within_parts (before m) (now m) failure is in
      absurd (not_within (before m) failure.after both.0 (subst (λ (n : ℕ). failure.after ≤ n) (same m) both.1)),
  stops_first failures before now same,
)

one_up : (now later after : ℕ) → later ≡ now + 1 → after ≤ later → (after ≤ now → ⊥) → later ≡ after
one_up now later after is low none = ⊎_elim (λ (less : now < after). up now later after is low less) (λ (high : after ≤ now). absurd (none high)) (cases_lt now after)
  where
    up : (now later after : ℕ) → later ≡ now + 1 → after ≤ later → now < after → later ≡ after
    up now later after is low less = omega arith

false_true : (b : Bool) → b ≡ false → b ≡ true → ⊥
false_true b one other = not_so (sym one ∙ other)
  where
    not_so : false ≡ true → ⊥
    not_so is = cc

-- who makes one update more, and had reached none, stops at the count that it reaches
stops_on : (failures : List FailureAt) (before now later : ℕ → ℕ) (a : ℕ) → later a ≡ now a + 1 → ((b : ℕ) → b ≢ a → later b ≡ now b) →
    AllByRecursion (λ (failure : FailureAt). failure.machine.0 ≡ a → is_within (before a) (now a) failure ≡ false) failures →
    AllByRecursion (λ (failure : FailureAt). is_reached before now failure ≡ true → now failure.machine.0 ≡ failure.after) failures →
    AllByRecursion (λ (failure : FailureAt). is_reached before later failure ≡ true → later failure.machine.0 ≡ failure.after) failures
stops_on [] before now later a here there none stops = tt
stops_on (failure ∷ failures) before now later a here there none stops = (
  λ is.
      let m : ℕ = failure.machine.0 in
      let both = within_parts (before m) (later m) failure is in
      ⊎_elim
      (λ (same : m ≡ a).
      one_up (now m) (later m) failure.after (subst (λ (k : ℕ). later k ≡ now k + 1) (sym same) here) both.1
      (λ high. false_true (is_within (before a) (now a) failure) (none.0 same)
      (subst (λ (k : ℕ). is_within (before k) (now k) failure ≡ true) same
      (and_from (nat_lt (before m) failure.after) (nat_le failure.after (now m)) (and_parts (nat_lt (before m) failure.after) (nat_le failure.after (later m)) is).0 (le-leb failure.after (now m) high)))))
      (λ (off : m ≢ a).
      there m off ∙ stops.0 (subst (λ (n : ℕ). is_within (before m) n failure ≡ true) (there m off) is))
      (cases_eq m a),
  stops_on failures before now later a here there none.1 stops.1,
)

same_test : (x y : Bool) → (x ≡ true → y ≡ true) → (y ≡ true → x ≡ true) → x ≡ y
same_test true y one other = sym (one refl)
same_test false y one other = sym (false_from_ne_true y (λ is. not_so (other is)))
  where
    not_so : false ≡ true → ⊥
    not_so is = cc

-- ---- each event

module _ (failures : List FailureAt) (start : Beginning) (st : Setting) (c : Cluster) (logged : List Logged) (failed : List Attempt) (at : IsInCall failures start st c logged failed) where
  pub log_is : (a : ℕ) → (c.machine a).part.log ≡ entries_of a (all_entries logged)
  log_is a = logs_are st c at.whole logged at.account a

  module _ (event : Event) (may : MayDo st c event) (other : IsNoRecovery event) where
    abbrev new : Cluster
    new = after_event st c event

    done_path : done_before c ≡ done_before new
    done_path = λ i. λ a. (sym (done_kept st c a event may other)) i

    module _ (none : IsNoUpdate event) where
      -- no machine makes an update
      pub log_kept : (a : ℕ) → length (new.machine a).part.log ≡ length (c.machine a).part.log
      log_kept a =
          let kept = quiet_kept st at.is c at.whole logged at.account event may other none in
          ap (λ (es : List Entry). length es) (logs_are st new kept.0 (logged ++ []) kept.1 a ∙ ap (λ (ls : List Logged). entries_of a (all_entries ls)) (append-nil logged) ∙ sym (log_is a))

      now_path : done_now c ≡ done_now new
      now_path = λ i. λ a. (sym (ap₂ (λ (n k : ℕ). n + k) (done_kept st c a event may other) (log_kept a))) i

      pub reached_kept : (a : ℕ) → has_reached failures new a ≡ has_reached failures c a
      reached_kept a = sym (ap₂ (reaches failures a) (λ i. done_path i a) (λ i. now_path i a))

      pub quiet_in : FollowsJob st failures c event → IsInCall failures start st new (logged ++ []) failed
      quiet_in follows =
          let kept = quiet_kept st at.is c at.whole logged at.account event may other none in
          record {
            is = at.is;
            whole = kept.0;
            account = kept.1;
            based = still_based st c logged at.based event may other none;
            asking = subst (AreAsking st new) (sym (append-nil logged)) (events_asking st at.is c at.whole logged at.account.lists at.asking event may other none);
            so = quiet_so failures start st at.is c at.whole logged at.account at.based failed at.so event may other none;
            windows = at.windows;
            ordered = at.ordered;
            stops = stops_as failures (done_before c) (done_now c) (done_before new) (done_now new) done_path now_path at.stops;
            fails = λ a is.
                reached_kept a
                ∙ ⊎_elim
                (λ (was : (c.machine a).failed ≡ true). at.fails a was)
                (λ (now : event ≡ Fail a). subst (FollowsJob st failures c) now follows)
                (failed_by st c a event may other is);
          }

  -- ---- an update

  module _ (s : ScopeId) (may : MayDo st c (Update s)) where
    abbrev l : Logged
    l = update_logged st c s may.1.vertex

    abbrev made : Cluster
    made = after_event st c (Update s)

    no_recovery : IsNoRecovery (Update s)
    no_recovery = λ base same. cc

    log_by : (a : ℕ) (b : Bool) → is_of a l.entry ≡ b → (made.machine a).part.log ≡ (c.machine a).part.log ++ (if b then l.entry ∷ [] else [])
    log_by a b is =
        let kept = update_kept st at.is c at.whole logged at.account s may no_recovery in
        logs_are st made kept.0 (logged ++ l ∷ []) kept.1 a ∙ ap (entries_of a) (all-more logged (l ∷ [])) ∙ filter-append (is_of a) (all_entries logged) (l.entry ∷ [])
        ∙ ap₂ (λ (xs ys : List Entry). xs ++ ys) (sym (log_is a)) (ap (λ (t : Bool). if t then l.entry ∷ [] else []) is)

    pub log_more : length (made.machine s.home.0).part.log ≡ length (c.machine s.home.0).part.log + 1
    log_more =
        ap (λ (es : List Entry). length es) (log_by s.home.0 true (own_entry s.home.0 s.home (record { 0 = may.1.vertex }) c.next refl)) ∙ length-append (c.machine s.home.0).part.log (l.entry ∷ [])

    pub log_there : (a : ℕ) → a ≢ s.home.0 → length (made.machine a).part.log ≡ length (c.machine a).part.log
    log_there a off =
        ap (λ (es : List Entry). length es) (log_by a false (other_entry a s.home (record { 0 = may.1.vertex }) c.next (λ same. off (sym same))) ∙ append-nil (c.machine a).part.log)

    made_done : (a : ℕ) → (made.machine a).done ≡ (c.machine a).done
    made_done a = done_kept st c a (Update s) may no_recovery

    add_one : (n k m : ℕ) → m ≡ k + 1 → n + m ≡ (n + k) + 1
    add_one n k m is = omega arith

    pub reached_there : (a : ℕ) → a ≢ s.home.0 → has_reached failures made a ≡ has_reached failures c a
    reached_there a off = ap₂ (reaches failures a) (made_done a) (ap₂ (λ (n k : ℕ). n + k) (made_done a) (log_there a off))

    pub update_in : FollowsJob st failures c (Update s) → IsInCall failures start st made (logged ++ l ∷ []) failed
    update_in follows =
        let kept = update_kept st at.is c at.whole logged at.account s may no_recovery in
        let own = own_logged st at.is c at.whole logged at.account.order s may no_recovery in
        let a : ℕ = s.home.0 in
        record {
          is = at.is;
          whole = kept.0;
          account = kept.1;
          based = update_based st c logged at.based s may no_recovery;
          asking = update_asking st at.is c at.whole logged at.account.lists at.asking s may own.0 own.1;
          so = update_so failures start st at.is c at.whole logged at.account at.based failed at.so s may no_recovery;
          windows = at.windows;
          ordered = at.ordered;
          stops = stops_as failures (done_before c) (done_now made) (done_before made) (done_now made) (λ i. λ b. (sym (made_done b)) i) refl
              (stops_on failures (done_before c) (done_now c) (done_now made) a
              (ap (λ (n : ℕ). n + length (made.machine a).part.log) (made_done a) ∙ add_one (c.machine a).done (length (c.machine a).part.log) (length (made.machine a).part.log) log_more)
              (λ b off. ap₂ (λ (n k : ℕ). n + k) (made_done b) (log_there b off))
              (none_reached failures a (done_before c a) (done_now c a) follows) at.stops);
          fails = λ b is.
              let was : (c.machine b).failed ≡ true = ⊎_elim (λ (x : (c.machine b).failed ≡ true). x) (λ (x : Update s ≡ Fail b). absurd (not_fail b x)) (failed_by st c b (Update s) may no_recovery is) in
              reached_there b (λ same. false_true (c.machine b).failed (subst (λ (k : ℕ). (c.machine k).failed ≡ false) (sym same) may.0.runs) was) ∙ at.fails b was;
        }
      where
        not_fail : (b : ℕ) → Update s ≡ Fail b → ⊥
        not_fail b is = cc

  -- ---- a recovery

  abbrev pub now_made : Attempt
  now_made = attempt_of failures (begins_behind start failed) c logged

  -- as many machines have failed as failures were reached
  pub fail_ordered : ((a : ℕ) → a < st.machines → has_reached failures c a ≡ true → (c.machine a).failed ≡ true) → FailAsOrdered st failures c
  fail_ordered all =
      record {
        struck = total_from-same 0 st.machines (one_at (done_before c) (done_now c) failures) (λ a. if (c.machine a).failed then 1 else 0)
            (λ a from to. ap (λ (t : Bool). if t then 1 else 0) (same_test (c.machine a).failed (has_reached failures c a) (at.fails a) (all a (in_range a st.machines to))))
            ∙ reached_many (done_before c) (done_now c) st.machines failures at.ordered.owned at.ordered.different at.stops;
        stops = at.stops;
      }
    where
      in_range : (a n : ℕ) → a < 0 + n → a < n
      in_range a n low = omega arith

  pub recover_in : (base : BaseView) → GoesBackTo st c base → FollowsJob st failures c (Recover base) →
      IsInCall failures start (setting_after st (Recover base)) (recovers st base c) [] (failed ++ now_made ∷ [])
  recover_in base back follows =
      let first = begun st at.is (are_coloured st st.engine c at.whole.apart) base c (next_base st at.is c at.whole logged at.account at.based base back) in
      record {
        is = record { graph = at.is.graph; owner = at.is.owner };
        whole = first.0;
        account = first.1;
        based = first.2;
        asking = begun_asking st base c;
        so = recover_so failures start st at.is c at.whole logged at.account at.based failed at.so base back (fail_ordered follows);
        windows = λ stored.
            each-append (KeepsWindow st.window) failed (now_made ∷ []) (at.windows stored)
            (unheld_few st at.is c at.whole logged at.account failures (begins_behind start failed) at.so.tickets at.asking stored, tt);
        ordered = at.ordered;
        stops = stops_first failures (done_before (recovers st base c)) (done_now (recovers st base c)) (λ m. plus_none (done_before (recovers st base c) m));
        fails = λ a is. absurd (not_so is);
      }
    where
      plus_none : (n : ℕ) → n + 0 ≡ n
      plus_none n = omega arith

      not_so : false ≡ true → ⊥
      not_so is = cc
