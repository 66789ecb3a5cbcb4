-- What the newest attempt of a cluster did is an attempt of the call.
use Rattle.std.proofs.Common.{◌≡◌, true, ℕ, ◌+◌, List, [], ◌∷◌, length, count_by, refl, sym, ap, ap₂, ◌∙◌, subst}
use Rattle.std.specs.List.{AllByRecursion}
use Rattle.std.proofs.lemmas.List.Sums.{length-filter}
use Rattle.gl_base.specs.declared.entries.Entry.{Entry}
use Rattle.gl_base.specs.declared.entries.Entry.TheVariants.{Go, Restart}
use Rattle.gl_base.specs.declared.jobs.FailureAt.{FailureAt}
use Rattle.cluster_laws.specs.cluster_core.Replays.{entries_of, is_of}
use Rattle.cluster_laws.specs.cluster_core.Settings.{IsSetting, Setting}
use Rattle.cluster_laws.specs.cluster_model.Clusters.{Cluster}
use Rattle.cluster_laws.specs.cluster_model.Leading.{Snapshot}
use Rattle.cluster_laws.specs.cluster_runs.Recorded.{shared_of}
use Rattle.whole_laws.specs.cluster_whole.Logged.{Logged, all_entries, entries_to, is_up_to}
use Rattle.whole_laws.specs.cluster_whole.Whole.{IsWhole}
use Rattle.whole_laws.specs.cluster_records.Bases.{IsBased}
use Rattle.whole_laws.specs.cluster_records.Recorded.{HaveSameNumbers, IsAccounted, IsGoodSnapshot, IsOwnUpdate}
use Rattle.whole_laws.proofs.cluster_records.Filtering.{nothing_up_to}
use Rattle.whole_laws.proofs.cluster_records.Gathering.{all_since}
use Rattle.whole_laws.proofs.cluster_records.Numbering.{all_own, passing_own, valid_same}
use Rattle.seq_run.specs.Orders.{IsValidFrom, all_tasks, replay}
use Rattle.seq_run.specs.States.{GraphState}
use Rattle.call_laws.specs.attempts.Beginnings.{held_updates, last_of, nothing}
use Rattle.cluster_laws.specs.cluster_runs.Attempts.{AreRising, Beginning, IsAttempt, StopsAtFailure, done_with, is_reached}
use Rattle.cluster_laws.specs.cluster_cuts.Goings.{AreUpdatesFrom, IsByOwner}
use Rattle.cluster_laws.specs.cluster_core.Cuts.{Begins, cut_of, updates_at, updates_of}
use Rattle.call_laws.proofs.attempts.Prefixes.{all_map}
use Rattle.call_laws.proofs.attempts.Standing.{all_weaker}
use Rattle.call_laws.specs.cluster_attempts.CallsSoFar.{attempt_of, count_to, counts_of}
use Rattle.call_laws.specs.cluster_attempts.Failures.{StopsAtCount, done_before, done_now}
use Rattle.call_laws.proofs.cluster_attempts.Counted.{HasFirst, counts_rise, cut_is, last_count, last_first}

pub logs_are : (st : Setting) (c : Cluster) (whole : IsWhole st c) (logged : List Logged) → IsAccounted st c whole logged → (a : ℕ) → (c.machine a).part.log ≡ entries_of a (all_entries logged)
logs_are st c whole logged account a = whole.consistent.replay.logs a ∙ ap (entries_of a) account.order.order

module _ (st : Setting) (is : IsSetting st) (c : Cluster) (whole : IsWhole st c) (logged : List Logged) (account : IsAccounted st c whole logged) (failures : List FailureAt) (b : Beginning) where
  abbrev made : List Entry
  made = all_entries logged

  none_to : entries_to st.base logged ≡ []
  none_to = nothing_up_to st.base logged (all_since st is logged account.since)

  pub count_none : count_to logged st.base ≡ nothing
  count_none = ap (λ (es : List Entry). λ (v : ℕ). updates_of v es) none_to

  first_none : HasFirst logged st.base
  first_none v = subst (λ (es : List Entry). Begins (updates_at v es) (updates_at v made)) (sym none_to) (updates_at v made, refl)

  owned : (es : List Entry) → AllByRecursion (IsOwnUpdate st) es → AllByRecursion (IsByOwner st.owner) es
  owned [] all = tt
  owned (Go machine vertex ticket ∷ es) all = (sym all.0.1, owned es all.1)
  owned (Restart ticket ∷ es) all = (tt, owned es all.1)

  module _ (based : IsBased st c logged) (front : c.base.order ≡ b.front) where
    begins_same : HaveSameNumbers st.graph st.start (replay st.graph st.program b.front)
    begins_same =
        subst (λ (es : List Entry). HaveSameNumbers st.graph st.start (replay st.graph st.program es)) front
        (subst (λ (s : GraphState). HaveSameNumbers st.graph s (replay st.graph st.program c.base.order)) based.start based.numbers)

    pub valid_here : (es : List Entry) → AllByRecursion (IsOwnUpdate st) es → IsValidFrom st.graph st.program st.start (all_tasks st.graph) es →
        IsValidFrom st.graph st.program (replay st.graph st.program b.front) (all_tasks st.graph) es
    valid_here es own valid = valid_same st is st.start (replay st.graph st.program b.front) (all_tasks st.graph) (all_tasks st.graph) es own begins_same (λ u low. refl) valid

    pub attempt_is : AreUpdatesFrom b.next made → AllByRecursion (StopsAtFailure b made) failures → IsAttempt (shared_of st failures) b (attempt_of failures b c logged)
    attempt_is tickets stops =
        record {
          tickets = tickets;
          owners = owned made (all_own st is logged account.since);
          valid = valid_here made (all_own st is logged account.since) (subst (IsValidFrom st.graph st.program st.start (all_tasks st.graph)) account.order.order whole.consistent.replay.valid);
          cuts = all_map (λ (count : ℕ → ℕ). IsValidFrom st.graph st.program (replay st.graph st.program b.front) (all_tasks st.graph) (cut_of count made)) (λ (snapshot : Snapshot). count_to logged snapshot.number) c.coordinator.snapshots
              (all_weaker (IsGoodSnapshot st logged) (λ (snapshot : Snapshot). IsValidFrom st.graph st.program (replay st.graph st.program b.front) (all_tasks st.graph) (cut_of (count_to logged snapshot.number) made))
              (λ snapshot good. subst (IsValidFrom st.graph st.program (replay st.graph st.program b.front) (all_tasks st.graph)) (sym (cut_is snapshot.number logged b.next tickets good.first))
              (valid_here (entries_to snapshot.number logged) (passing_own st is (is_up_to snapshot.number) logged account.since) good.valid))
              c.coordinator.snapshots account.records.good);
          rising = subst (λ (count : ℕ → ℕ). AreRising count (counts_of logged c.coordinator.snapshots)) count_none
              (counts_rise logged st.base c.coordinator.acknowledged c.coordinator.snapshots account.records.numbered);
          struck = refl;
          stops = stops;
        }

  pub held_is : AreUpdatesFrom b.next made → held_updates (attempt_of failures b c logged) ≡ entries_to c.coordinator.acknowledged logged
  held_is tickets =
      ap (λ (count : ℕ → ℕ). cut_of count made)
      (ap (λ (count : ℕ → ℕ). last_of count (counts_of logged c.coordinator.snapshots)) (sym count_none)
      ∙ last_count logged st.base c.coordinator.acknowledged c.coordinator.snapshots account.records.numbered)
      ∙ cut_is c.coordinator.acknowledged logged b.next tickets
      (last_first st logged st.base c.coordinator.acknowledged c.coordinator.snapshots account.records.numbered account.records.good first_none)

  module _ (before : (a : ℕ) → (c.machine a).done ≡ b.done a) where
    pub done_is : (a : ℕ) → done_now c a ≡ done_with b made a
    done_is a = ap₂ (λ (n k : ℕ). n + k) (before a) (ap length (logs_are st c whole logged account a) ∙ length-filter (is_of a) made)

    pub before_same : done_before c ≡ b.done
    before_same = λ i. λ a. before a i

    pub now_same : done_now c ≡ done_with b made
    now_same = λ i. λ a. done_is a i

    pub stops_same : AllByRecursion (StopsAtCount c) failures → AllByRecursion (StopsAtFailure b made) failures
    stops_same stops =
        subst (λ (now : ℕ → ℕ). AllByRecursion (λ (failure : FailureAt). is_reached b.done now failure ≡ true → now failure.machine.0 ≡ failure.after) failures) now_same
        (subst (λ (was : ℕ → ℕ). AllByRecursion (λ (failure : FailureAt). is_reached was (done_now c) failure ≡ true → done_now c failure.machine.0 ≡ failure.after) failures) before_same stops)

    pub struck_same : count_by (is_reached (done_before c) (done_now c)) failures ≡ count_by (is_reached b.done (done_with b made)) failures
    struck_same = ap₂ (λ (was now : ℕ → ℕ). count_by (is_reached was now) failures) before_same now_same
