-- What happens in a cluster from a start on is an attempt.
use Rattle.std.proofs.Common.{◌≡◌, ℕ, suc, ◌+◌, ◌<◌, ◌≤◌, ◌⊎◌, List, [], ◌∷◌, ◌++◌, length, if◌then◌else◌, nat_lt, ◌==◌, Some, count_by, sym, refl, ap, ◌∙◌, subst, ap₂, subst₂, inl, inr, ⊎_elim, append_assoc, append-nil, le_trans, le_of_eq, lt_of_lt_of_le, lt_of_le_of_lt, le_of_lt, lt-suc_self, not-le_of_lt, arith, le-ltb, lt-ltb, ne_eqb}
use Rattle.std.specs.List.{AllByRecursion}
use Rattle.std.proofs.lemmas.Bool.{cases_lt, cases_eq, cond-true, cond-false}
use Rattle.gl_base.specs.declared.entries.Entry.{Entry}
use Rattle.gl_base.specs.declared.entries.Entry.TheVariants.{Go, Restart}
use Rattle.gl_base.specs.declared.numbers.MachineNo.{MachineNo}
use Rattle.gl_base.specs.declared.numbers.Vertex.{Vertex}
use Rattle.gl_base.specs.declared.jobs.FailureAt.{FailureAt}
use Rattle.graph_core.specs.DataGraph.{size}
use Rattle.graph_core.proofs.HalvesLaws.{each-append}
use Rattle.seq_run.specs.Orders.{replay, all_tasks, IsValidFrom}
use Rattle.cluster_laws.specs.cluster_core.Actions.{Action, Admit, Grant, Send, Deliver, Update, Mark, Begin, Hear, SendSection, Collect, Record, MayRecord, MayHappen, records, after}
use Rattle.cluster_laws.specs.cluster_core.Cuts.{updates_of, cut_of}
use Rattle.cluster_laws.specs.cluster_core.Places.{IsExclusive}
use Rattle.cluster_laws.specs.cluster_core.Replays.{entries_of, replay_of}
use Rattle.cluster_laws.specs.cluster_core.Runs.{IsStart, IsApartRun}
use Rattle.cluster_laws.specs.cluster_core.Settings.{Setting, IsSetting}
use Rattle.cluster_laws.specs.cluster_core.Snapshots.{IsConsistent, IsUnmarked}
use Rattle.cluster_laws.specs.cluster_core.Worlds.{World}
use Rattle.cluster_laws.specs.cluster_cuts.Goings.{AreUpdatesFrom, IsByOwner, IsOfVertexBelow, GoesOn, HoldCut}
use Rattle.cluster_laws.proofs.cluster_cuts.Beginning.{first_kept}
use Rattle.cluster_laws.proofs.cluster_cuts.CutLists.{updates_push-same, updates_push-other, cut_push-out, cut_same}
use Rattle.cluster_laws.proofs.cluster_cuts.CutsGoOn.{step_goes, goes_not, goes_then}
use Rattle.cluster_laws.proofs.cluster_cuts.CutsKept.{one_step, recorded, recorded_cut}
use Rattle.cluster_laws.specs.cluster_runs.Attempts.{Attempt, Beginning, done_with, is_reached, StopsAtFailure, AreRising, IsAttempt}
use Rattle.cluster_laws.specs.cluster_runs.Recorded.{AreRecorded, shared_of}

-- ---- counts of vertices of the graph alone

-- the count of a vertex of the graph, and 0 elsewhere
abbrev below : ℕ → (ℕ → ℕ) → ℕ → ℕ
below n count v = if nat_lt v n then count v else 0

below-in : (n : ℕ) (count : ℕ → ℕ) (v : ℕ) → v < n → below n count v ≡ count v
below-in n count v low = cond-true (nat_lt v n) (count v) 0 (lt-ltb v n low)

below-out : (n : ℕ) (count : ℕ → ℕ) (v : ℕ) → n ≤ v → below n count v ≡ 0
below-out n count v high = cond-false (nat_lt v n) (count v) 0 (le-ltb v n high)

none_past : (n v : ℕ) (order : List Entry) → AllByRecursion (IsOfVertexBelow n) order → n ≤ v → updates_of v order ≡ 0
none_past n v [] all high = refl
none_past n v (Restart ticket ∷ order) all high = none_past n v order all.1 high
none_past n v (Go machine vertex ticket ∷ order) all high =
    cond-false (vertex.0 == v) (suc (updates_of v order)) (updates_of v order) (ne_eqb vertex.0 v (λ same. absurd (not-le_of_lt all.0 (subst (λ x. n ≤ x) (sym same) high))))
    ∙ none_past n v order all.1 high

-- counts that agree on the vertices of the graph have one cut
cut_below : (n : ℕ) (count : ℕ → ℕ) (order : List Entry) → AllByRecursion (IsOfVertexBelow n) order → cut_of (below n count) order ≡ cut_of count order
cut_below n count order all = cut_same (below n count) count order (λ v. ⊎_elim
    (λ (low : v < n). inl (below-in n count v low))
    (λ (high : n ≤ v). inr (subst (λ k. k ≤ below n count v) (sym (none_past n v order all high)) (omega arith), subst (λ k. k ≤ count v) (sym (none_past n v order all high)) (omega arith)))
    (cases_lt v n))

-- ---- updates behind a cut that has enough leave it as it is

one_behind : (count : ℕ → ℕ) (order : List Entry) (m : MachineNo) (u : Vertex) (t : ℕ) → count u.0 ≤ updates_of u.0 order → cut_of count (order ++ Go m u t ∷ []) ≡ cut_of count order
one_behind count order m u t enough = cut_push-out m u t count order enough

updates_grow : (v : ℕ) (order : List Entry) (m : MachineNo) (u : Vertex) (t : ℕ) → updates_of v order ≤ updates_of v (order ++ Go m u t ∷ [])
updates_grow v order m u t = ⊎_elim
    (λ (same : u.0 ≡ v). subst (λ k. updates_of v order ≤ k) (sym (updates_push-same v order m u t same)) (le_of_lt (lt-suc_self (updates_of v order))))
    (λ (other : u.0 ≡ v → ⊥). le_of_eq (sym (updates_push-other v order m u t other)))
    (cases_eq u.0 v)

cut_stays : (count : ℕ → ℕ) (next n : ℕ) (order rest : List Entry) → ((v : ℕ) → v < n → count v ≤ updates_of v order) → AreUpdatesFrom next rest → AllByRecursion (IsOfVertexBelow n) rest → cut_of count (order ++ rest) ≡ cut_of count order
cut_stays count next n order [] enough tickets within = ap (cut_of count) (append-nil order)
cut_stays count next n order (Restart ticket ∷ rest) enough tickets within = absurd tickets
cut_stays count next n order (Go m u t ∷ rest) enough tickets within =
    ap (cut_of count) (sym (append_assoc order (Go m u t ∷ []) rest))
    ∙ cut_stays count (suc next) n (order ++ Go m u t ∷ []) rest (λ v low. le_trans (enough v low) (updates_grow v order m u t)) tickets.1 within.1
    ∙ one_behind count order m u t (enough u.0 within.0)

-- ---- a run, with its records

-- the count is not above that of the newest cut
abbrev pub IsUnder : (st : Setting) (w : World) → IsConsistent st w → (ℕ → ℕ) → Type 0
IsUnder st w kept low = (v : ℕ) → (low v ≡ 0) ⊎ ((v < size st.graph) × (st.base < w.begun) × (low v ≤ kept.count v))

-- From a consistent world these actions lead to another one, and each record among them holds the numbers of a cut of its order,
-- which is valid and has what the cut before has.
pub record RunsOn (st : Setting) (w : World) (kept : IsConsistent st w) (actions : List Action) (new : World) : Type 0 where
  pub gone : GoesOn st w kept new
  pub counts : List (ℕ → ℕ)
  pub recorded : AreRecorded st w actions counts gone.next.order
  pub cuts : AllByRecursion (λ count. IsValidFrom st.graph st.program st.start (all_tasks st.graph) (cut_of count gone.next.order)) counts
  pub rising : (low : ℕ → ℕ) → IsUnder st w kept low → AreRising low counts

module _ (st : Setting) (is : IsSetting st) where
  -- who is under the count before is under the one behind
  under_then : (a b : World) (kept : IsConsistent st a) (one : GoesOn st a kept b) (low : ℕ → ℕ) → IsUnder st a kept low → IsUnder st b one.next low
  under_then a b kept one low under v = ⊎_elim
      (λ (none : low v ≡ 0). inl none)
      (λ (some : (v < size st.graph) × (st.base < a.begun) × (low v ≤ kept.count v)).
      inr (some.0, lt_of_lt_of_le some.1 one.begun, le_trans some.2 (one.rises v some.0 some.1)))
      (under v)

  -- an action before that is no record
  plainly : (w : World) (kept : IsConsistent st w) (action : Action) (actions : List Action) (new : World) (one : GoesOn st w kept (after st w action)) (rest : RunsOn st (after st w action) one.next actions new) →
      ((counts : List (ℕ → ℕ)) (order : List Entry) → AreRecorded st (after st w action) actions counts order → AreRecorded st w (action ∷ actions) counts order) → RunsOn st w kept (action ∷ actions) new
  plainly w kept action actions new one rest lift =
      record {
        gone = goes_then st w (after st w action) new kept one rest.gone;
        counts = rest.counts;
        recorded = lift rest.counts rest.gone.next.order rest.recorded;
        cuts = rest.cuts;
        rising = λ low under. rest.rising low (under_then w (after st w action) kept one low under);
      }

  recording : (w : World) (kept : IsConsistent st w) (may : MayRecord st w) (actions : List Action) (new : World) (one : GoesOn st w kept (records w)) →
      (rest : RunsOn st (records w) one.next actions new) → AllByRecursion (IsOfVertexBelow (size st.graph)) kept.order → RunsOn st w kept (Record ∷ actions) new
  recording w kept may actions new one rest inside =
      let gone : GoesOn st w kept new = goes_then st w (records w) new kept one rest.gone in
      let n : ℕ = size st.graph in
      let cut = recorded_cut st is w kept may in
      let begun : st.base < w.begun = lt_of_le_of_lt kept.marks.base may.under in
      let whole : AllByRecursion (IsOfVertexBelow n) (kept.order ++ gone.rest) = each-append (IsOfVertexBelow n) kept.order gone.rest inside gone.vertices in
      let same : cut_of (below n kept.count) gone.next.order ≡ cut_of kept.count kept.order =
      ap (cut_of (below n kept.count)) gone.order ∙ cut_below n kept.count (kept.order ++ gone.rest) whole
      ∙ cut_stays kept.count w.next n kept.order gone.rest cut.few gone.tickets gone.vertices in
      let held : HoldCut st w kept.count kept.order = recorded st is w kept may in
      record {
        gone = gone;
        counts = below n kept.count ∷ rest.counts;
        recorded = (
          record {
            vertices = λ v low. let its = held.vertices v low in (its.0, its.1, its.2 ∙ ap (λ es. Some ((replay_of st es).vertex v)) (sym same));
            edges = λ e low. let its = held.edges e low in (its.0, its.1, its.2, its.3, its.4 ∙ ap (λ es. Some ((replay_of st es).edge e)) (sym same));
          },
          rest.recorded,
        );
        cuts = (subst (IsValidFrom st.graph st.program st.start (all_tasks st.graph)) (sym same) cut.valid, rest.cuts);
        rising = λ low under. (
          λ v. ⊎_elim
              (λ (none : low v ≡ 0). subst (λ k. k ≤ below n kept.count v) (sym none) (omega arith))
              (λ (some : (v < n) × (st.base < w.begun) × (low v ≤ kept.count v)). subst (λ k. low v ≤ k) (sym (below-in n kept.count v some.0)) some.2)
              (under v),
          rest.rising (below n kept.count) (λ v. ⊎_elim
              (λ (inner : v < n). inr (inner, lt_of_lt_of_le begun one.begun, subst (λ k. k ≤ one.next.count v) (sym (below-in n kept.count v inner)) (one.rises v inner begun)))
              (λ (past : n ≤ v). inl (below-out n kept.count v past))
              (cases_lt v n)),
        );
      }

  one_goes : (w : World) (kept : IsConsistent st w) → IsExclusive st w → (action : Action) → MayHappen st w action → GoesOn st w kept (after st w action)
  one_goes w kept apart action may = step_goes st is w kept (after st w action) (one_step st is w kept apart action may)

  led : (action : Action) (actions : List Action) (w new : World) (kept : IsConsistent st w) → AllByRecursion (IsOfVertexBelow (size st.graph)) kept.order → IsExclusive st w → (may : MayHappen st w action) →
      ((one : GoesOn st w kept (after st w action)) → RunsOn st (after st w action) one.next actions new) → RunsOn st w kept (action ∷ actions) new
  led (Admit a v) actions w new kept inside apart may rest =
      let one = one_goes w kept apart (Admit a v) may in plainly w kept (Admit a v) actions new one (rest one) (λ counts order r. r)
  led (Grant a x) actions w new kept inside apart may rest =
      let one = one_goes w kept apart (Grant a x) may in plainly w kept (Grant a x) actions new one (rest one) (λ counts order r. r)
  led (Send p q) actions w new kept inside apart may rest =
      let one = one_goes w kept apart (Send p q) may in plainly w kept (Send p q) actions new one (rest one) (λ counts order r. r)
  led (Deliver p q) actions w new kept inside apart may rest =
      let one = one_goes w kept apart (Deliver p q) may in plainly w kept (Deliver p q) actions new one (rest one) (λ counts order r. r)
  led (Update s) actions w new kept inside apart may rest =
      let one = one_goes w kept apart (Update s) may in plainly w kept (Update s) actions new one (rest one) (λ counts order r. r)
  led (Mark s) actions w new kept inside apart may rest =
      let one = one_goes w kept apart (Mark s) may in plainly w kept (Mark s) actions new one (rest one) (λ counts order r. r)
  led Begin actions w new kept inside apart may rest =
      let one = one_goes w kept apart Begin may in plainly w kept Begin actions new one (rest one) (λ counts order r. r)
  led (Hear a) actions w new kept inside apart may rest =
      let one = one_goes w kept apart (Hear a) may in plainly w kept (Hear a) actions new one (rest one) (λ counts order r. r)
  led (SendSection a) actions w new kept inside apart may rest =
      let one = one_goes w kept apart (SendSection a) may in plainly w kept (SendSection a) actions new one (rest one) (λ counts order r. r)
  led (Collect a) actions w new kept inside apart may rest =
      let one = one_goes w kept apart (Collect a) may in plainly w kept (Collect a) actions new one (rest one) (λ counts order r. r)
  led Record actions w new kept inside apart may rest =
      let one = one_goes w kept apart Record may in recording w kept may actions new one (rest one) inside

  pub run_on : (actions : List Action) (w new : World) (kept : IsConsistent st w) → AllByRecursion (IsOfVertexBelow (size st.graph)) kept.order → IsApartRun st w actions new → RunsOn st w kept actions new
  run_on [] w new kept inside run =
      subst (RunsOn st w kept []) (sym run) (record { gone = goes_not st w kept; counts = []; recorded = tt; cuts = tt; rising = λ low under. tt })
  run_on (action ∷ actions) w new kept inside run =
      led action actions w new kept inside run.0 run.1
      (λ one. run_on actions (after st w action) new one.next
      (subst (AllByRecursion (IsOfVertexBelow (size st.graph))) (sym one.order) (each-append (IsOfVertexBelow (size st.graph)) kept.order one.rest inside one.vertices)) run.2)

-- ---- from a start on

module _ (st : Setting) (is : IsSetting st) (failures : List FailureAt) (b : Beginning) (start : World) (actions : List Action) (new : World) (starts : IsStart st start) (unmarked : IsUnmarked st start) (run : IsApartRun st start actions new) where
  abbrev whole_run : RunsOn st start (first_kept st is start starts unmarked) actions new
  whole_run = run_on st is actions start new (first_kept st is start starts unmarked) tt run

  abbrev pub attempt : Attempt
  attempt =
      record {
        made = whole_run.gone.next.order;
        kept = whole_run.counts;
        struck = count_by (is_reached b.done (done_with b whole_run.gone.next.order)) failures;
      }

  all_new : attempt.made ≡ whole_run.gone.rest
  all_new = whole_run.gone.order

  pub attempt_logs : (m : ℕ) → (new.part m).log ≡ entries_of m attempt.made
  attempt_logs = whole_run.gone.next.replay.logs

  pub attempt_numbers : (v : ℕ) → v < size st.graph → ((new.part (st.owner v)).datum v).value ≡ (replay_of st attempt.made).vertex v
  attempt_numbers = whole_run.gone.next.replay.numbers

  pub attempt_tickets : b.next ≡ start.next → new.next ≡ b.next + length attempt.made
  attempt_tickets next = whole_run.gone.drawn ∙ ap₂ (λ n es. n + length es) (sym next) (sym all_new)

  pub attempt_recorded : AreRecorded st start actions attempt.kept attempt.made
  attempt_recorded = whole_run.recorded

  pub attempt_is : replay st.graph st.program b.front ≡ st.start → b.next ≡ start.next → AllByRecursion (StopsAtFailure b attempt.made) failures → IsAttempt (shared_of st failures) b attempt
  attempt_is numbers next stops =
      record {
        tickets = subst₂ AreUpdatesFrom (sym next) (sym all_new) whole_run.gone.tickets;
        owners = subst (AllByRecursion (IsByOwner st.owner)) (sym all_new) whole_run.gone.owners;
        valid = subst (λ s. IsValidFrom st.graph st.program s (all_tasks st.graph) attempt.made) (sym numbers) whole_run.gone.next.replay.valid;
        cuts = subst (λ s. AllByRecursion (λ count. IsValidFrom st.graph st.program s (all_tasks st.graph) (cut_of count attempt.made)) attempt.kept) (sym numbers) whole_run.cuts;
        rising = whole_run.rising (λ v. 0) (λ v. inl refl);
        struck = refl;
        stops = stops;
      }
