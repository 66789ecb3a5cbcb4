-- Where a call needs more of a store, its lists say so.
use Rattle.std.proofs.Common.{Bool, IsPermutation, List, [], ap, ap₂, append-nil, append_assoc, arith, filter, inl, inr, length, length-append, refl, subst, sym, suc, true, false, ℕ, ◌*◌, ◌++◌, ◌+◌, ◌-◌, ◌/◌, ◌<◌, ◌∙◌, ◌∷◌, ◌≡◌, ◌≤◌}
use Rattle.std.specs.List.{AllByRecursion}
use Rattle.std.specs.Prelude.{if◌then◌else◌}
use Rattle.std.proofs.lemmas.Bool.{both_ways}
use Rattle.std.proofs.lemmas.List.Elements.{filter-append}
use Rattle.std.proofs.lemmas.List.Sorted.{IsPermutation-append_right, length_permutation, sum_by-IsPermutation}
use Rattle.gl_base.specs.declared.entries.Entry.{Entry}
use Rattle.gl_base.specs.declared.entries.Entry.TheVariants.{Go, Restart}
use Rattle.gl_base.specs.declared.jobs.FailureAt.{FailureAt}
use Rattle.call_laws.proofs.attempts.Accounting.{filter_all, filter_none}
use Rattle.call_laws.proofs.attempts.Counting.{made_by-append}
use Rattle.call_laws.proofs.attempts.Cutting.{all_cut, cut_and_left}
use Rattle.call_laws.proofs.attempts.Failing.{all_restarts, no_restart}
use Rattle.call_laws.proofs.attempts.Opening.{last_begins, opening_begins}
use Rattle.call_laws.proofs.attempts.Prefixes.{last_order_append}
use Rattle.call_laws.proofs.attempts.Storing.{call_back, goes_back}
use Rattle.call_laws.specs.attempts.Beginnings.{again, held_updates, last_of, nothing, unheld_updates}
use Rattle.call_laws.specs.attempts.EngineCalls.{EngineCall, IsEngineCall, call_order, last_beginning, opening}
use Rattle.call_laws.specs.attempts.Entries.{is_restart, is_update}
use Rattle.call_laws.specs.attempts.Stores.{ResumesFrom, attempted_snapshots, last_order, snapshot_orders, snapshots_of}
use Rattle.cluster_laws.specs.cluster_runs.Recorded.{shared_of}
use Rattle.recovery.specs.Journals.{stored_order}
use Rattle.cluster_laws.specs.cluster_core.Replays.{is_of}
use Rattle.cluster_laws.specs.cluster_core.Settings.{Setting}
use Rattle.cluster_laws.specs.cluster_cuts.Goings.{AreUpdatesFrom}
use Rattle.cluster_laws.specs.cluster_model.ByTicket.{restarts}
use Rattle.cluster_laws.specs.cluster_model.Clusters.{Cluster}
use Rattle.cluster_laws.specs.cluster_model.Working.{half_window}
use Rattle.cluster_laws.specs.cluster_runs.Attempts.{Attempt, Beginning, IsAttempt, Shared, made_by}
use Rattle.graph_core.specs.DataGraph.{size}
use Rattle.seq_run.specs.Orders.{tasks_after}
use Rattle.engine_runs.specs.answers.Ends.{IsFullOfSnapshots, NeedsMoreRoom}
use Rattle.call_laws.specs.whole_calls.Called.{IsCallOf}
use Rattle.call_laws.specs.whole_calls.Telling.{LacksNoSnapshot, LacksStoreRoom}

-- ---- updates and restarts of an order

no_updates : (entries : List Entry) → AllByRecursion (λ entry. is_restart entry ≡ true) entries → filter is_update entries ≡ []
no_updates [] all = refl
no_updates (Go m v t ∷ entries) all = absurd (not_so all.0)
  where
    not_so : false ≡ true → ⊥
    not_so is = cc
no_updates (Restart ticket ∷ entries) all = no_updates entries all.1

all_updates : (next : ℕ) (made : List Entry) → AreUpdatesFrom next made → AllByRecursion (λ entry. is_update entry ≡ true) made
all_updates next [] tickets = tt
all_updates next (Restart ticket ∷ made) tickets = absurd tickets
all_updates next (Go m v t ∷ made) tickets = (refl, all_updates (suc next) made tickets.1)

-- together they are all of it
both_kinds : (order : List Entry) → length order ≡ length (filter is_update order) + length (filter is_restart order)
both_kinds [] = refl
both_kinds (Go m v t ∷ order) = one_more (length order) (length (filter is_update order)) (length (filter is_restart order)) (both_kinds order)
  where
    one_more : (n a b : ℕ) → n ≡ a + b → suc n ≡ suc a + b
    one_more n a b is = omega (arith, is)
both_kinds (Restart t ∷ order) = one_behind (length order) (length (filter is_update order)) (length (filter is_restart order)) (both_kinds order)
  where
    one_behind : (n a b : ℕ) → n ≡ a + b → suc n ≡ a + suc b
    one_behind n a b is = omega (arith, is)

same_as : (xs us ys vs : List Entry) → xs ≡ us → ys ≡ vs → IsPermutation us vs → IsPermutation xs ys
same_as xs us ys vs one other same = subst (λ (es : List Entry). IsPermutation es ys) (sym one) (subst (IsPermutation us) (sym other) same)

-- ---- what is outside the last snapshot of a call

module _ (shared : Shared) (call : EngineCall) (is : IsEngineCall shared call) where
  abbrev b : Beginning
  b = last_beginning call

  abbrev a : Attempt
  a = call.last

  abbrev newest : List Entry
  newest = last_order call.base (snapshots_of call)

  abbrev own : List Entry
  own = restarts a.struck (b.next + length a.made)

  attempt : IsAttempt shared b a
  attempt = (last_begins shared (opening call) call.failed call.last (opening_begins shared call is) is.attempts).1

  back : ResumesFrom newest (again b a).front
  back =
      subst (λ (order : List Entry). ResumesFrom order (again b a).front) (sym (last_order_append call.base (attempted_snapshots (opening call) call.failed) (snapshot_orders b a)))
      (goes_back shared (last_order call.base (attempted_snapshots (opening call) call.failed)) b a attempt (call_back shared call is))

  updates : AllByRecursion (λ entry. is_update entry ≡ true) a.made
  updates = all_updates b.next a.made attempt.tickets

  snapshot : filter is_update newest ≡ filter is_update b.front ++ held_updates a
  snapshot =
      sym (append-nil (filter is_update newest)) ∙ ap (λ (es : List Entry). filter is_update newest ++ es) (sym (no_updates back.0 back.2)) ∙ sym (filter-append is_update newest back.0)
      ∙ ap (filter is_update) (sym back.1) ∙ filter-append is_update b.front (held_updates a ++ own)
      ∙ ap (λ (es : List Entry). filter is_update b.front ++ es)
      (filter-append is_update (held_updates a) own
      ∙ ap₂ (λ (xs ys : List Entry). xs ++ ys) (filter_all is_update (held_updates a) (all_cut (λ entry. is_update entry ≡ true) (last_of nothing a.kept) a.made updates))
      (no_updates own (all_restarts a.struck (b.next + length a.made)))
      ∙ append-nil (held_updates a))

  -- the updates of the order are those of the last snapshot and the ones that it doesn't hold
  pub outside_is : IsPermutation (filter is_update newest ++ unheld_updates a) (filter is_update (call_order call))
  outside_is =
      same_as (filter is_update newest ++ unheld_updates a) (filter is_update b.front ++ (held_updates a ++ unheld_updates a)) (filter is_update (call_order call)) (filter is_update b.front ++ a.made)
      (ap (λ (es : List Entry). es ++ unheld_updates a) snapshot ∙ append_assoc (filter is_update b.front) (held_updates a) (unheld_updates a))
      (filter-append is_update b.front a.made ∙ ap (λ (es : List Entry). filter is_update b.front ++ es) (filter_all is_update a.made updates))
      (IsPermutation-append_right (filter is_update b.front) (held_updates a ++ unheld_updates a) a.made (cut_and_left (last_of nothing a.kept) b.next a.made attempt.tickets))

  -- its restarts are those with which the last attempt began
  restarts_are : filter is_restart (call_order call) ≡ filter is_restart b.front
  restarts_are =
      filter-append is_restart b.front a.made ∙ ap (λ (es : List Entry). filter is_restart b.front ++ es) (filter_none is_restart a.made (no_restart b.next a.made attempt.tickets)) ∙ append-nil (filter is_restart b.front)

  pub long_is : length (call_order call) ≡ length (filter is_update newest) + length (unheld_updates a) + length (filter is_restart b.front)
  long_is =
      both_kinds (call_order call)
      ∙ ap₂ (λ (n k : ℕ). n + k) (length_permutation (filter is_update newest ++ unheld_updates a) (filter is_update (call_order call)) outside_is ∙ length-append (filter is_update newest) (unheld_updates a)) (ap length restarts_are)

  -- of each machine as many are outside by whichever list of them
  pub outside_many : (outside : List Entry) → IsPermutation (filter is_update newest ++ outside) (filter is_update (call_order call)) → (m : ℕ) → made_by outside m ≡ made_by (unheld_updates a) m
  outside_many outside same m =
      rest_same (made_by (filter is_update newest) m) (made_by outside m) (made_by (unheld_updates a) m)
      (sym (made_by-append (filter is_update newest) outside m) ∙ sym (by_permutation outside same) ∙ by_permutation (unheld_updates a) outside_is ∙ made_by-append (filter is_update newest) (unheld_updates a) m)
    where
      by_permutation : (es : List Entry) → IsPermutation (filter is_update newest ++ es) (filter is_update (call_order call)) → made_by (filter is_update (call_order call)) m ≡ made_by (filter is_update newest ++ es) m
      by_permutation es is_same = sum_by-IsPermutation (λ (e : Entry). if is_of m e then 1 else 0) (filter is_update newest ++ es) (filter is_update (call_order call)) is_same

      rest_same : (n x y : ℕ) → n + x ≡ n + y → x ≡ y
      rest_same n x y is_same = omega arith

-- ---- so the store has no room for what is needed

room_of : (ends bytes held unheld stored front with long newest : ℕ) → ends + 16 * stored ≡ bytes + 16 * front → long ≡ held + unheld + front → newest ≡ held + stored → 1073741824 < ends + (8 + 16 * unheld + with) →
    1073741824 < bytes + (8 + 16 * (long - newest) + with)
room_of ends bytes held unheld stored front with long newest place long_is newest_is over = omega (arith, place, long_is, newest_is, over)

shifted : (e u m n k : ℕ) → e + (8 + 16 * u + 8 * m + 12 * n + 12 * k + 9) ≡ e + (8 + 16 * u + (8 * m + 12 * n + 12 * k + 9))
shifted e u m n k = omega arith

module _ (st : Setting) (failures : List FailureAt) (kept : List Entry) (resumed : Bool) (c : Cluster) (call : EngineCall) (of : IsCallOf st failures kept resumed c call) (count bytes : ℕ) (stored front : List Entry) (bodies : List (List ℕ)) where
  pub needs_room : last_order kept (snapshots_of call) ≡ stored_order bodies → stored ≡ filter is_restart (stored_order bodies) → front ≡ filter is_restart c.base.order → c.coordinator.acknowledged ≡ count →
      c.coordinator.store_end + 16 * length stored ≡ bytes + 16 * length front → (order : List Entry) → order ≡ call_order call → LacksStoreRoom st c.coordinator call →
      NeedsMoreRoom (shared_of st failures) st.machines st.window kept (snapshots_of call) count bytes order
  needs_room newest_is stored_are front_are count_is place order order_is (inl many) =
      inl (
        subst (λ (n : ℕ). 4096 ≤ n) count_is many.0,
        elim many.1 [
          | inl half ↦ inl (record {
            outside = unheld_updates call.last;
            same = subst₂_same;
            machine = half.0;
            below = half.1;
            enough = half.2;
          })
          | inr lacks ↦ inr (record {
            tasks = λ u low. ap (λ (es : List Entry). tasks_after st.graph st.program es u) order_is ∙ lacks.0 u low;
            none = elim lacks.1 [
              | inl none ↦ inl none
              | inr other ↦ inr (λ same. other (ap (λ (ks : List Entry). last_order ks (snapshots_of call)) of.base ∙ same ∙ order_is))
            ];
          })
        ],
      )
    where
      subst₂_same : IsPermutation (filter is_update (last_order kept (snapshots_of call)) ++ unheld_updates call.last) (filter is_update order)
      subst₂_same =
          subst (λ (ks : List Entry). IsPermutation (filter is_update (last_order ks (snapshots_of call)) ++ unheld_updates call.last) (filter is_update order)) of.base
          (subst (λ (es : List Entry). IsPermutation (filter is_update (last_order call.base (snapshots_of call)) ++ unheld_updates call.last) (filter is_update es)) (sym order_is) (outside_is (shared_of st failures) call of.is))
  needs_room newest_is stored_are front_are count_is place order order_is (inr over) = inr over_there
    where
      newest_long : length (last_order kept (snapshots_of call)) ≡ length (filter is_update (last_order kept (snapshots_of call))) + length stored
      newest_long = both_kinds (last_order kept (snapshots_of call)) ∙ ap (λ (es : List Entry). length (filter is_update (last_order kept (snapshots_of call))) + length es) (ap (filter is_restart) newest_is ∙ sym stored_are)

      order_long : length order ≡ length (filter is_update (last_order kept (snapshots_of call))) + length (unheld_updates call.last) + length front
      order_long =
          ap length order_is ∙ long_is (shared_of st failures) call of.is
          ∙ ap₂ (λ (ks es : List Entry). length (filter is_update (last_order ks (snapshots_of call))) + length (unheld_updates call.last) + length es) of.base (ap (filter is_restart) (sym of.front) ∙ sym front_are)

      over_there : 1073741824 < bytes + (8 + 16 * (length order - length (last_order kept (snapshots_of call))) + 8 * st.machines + 12 * size st.graph + 12 * length st.graph.edges + 9)
      over_there =
          subst (λ (n : ℕ). 1073741824 < n) (sym (shifted bytes (length order - length (last_order kept (snapshots_of call))) st.machines (size st.graph) (length st.graph.edges)))
          (room_of c.coordinator.store_end bytes (length (filter is_update (last_order kept (snapshots_of call)))) (length (unheld_updates call.last)) (length stored) (length front)
          (8 * st.machines + 12 * size st.graph + 12 * length st.graph.edges + 9) (length order) (length (last_order kept (snapshots_of call))) place order_long newest_long
          (subst (λ (n : ℕ). 1073741824 < n) (shifted c.coordinator.store_end (length (unheld_updates call.last)) st.machines (size st.graph) (length st.graph.edges)) over))

  -- where no snapshot lacks of a full store and a task is left, the store is not full for the run
  pub never_full : LacksNoSnapshot st c.coordinator call → c.coordinator.acknowledged ≡ count → (order : List Entry) → order ≡ call_order call → (left : ℕ) → left < size st.graph → tasks_after st.graph st.program order left ≡ true → 0 < st.window →
      IsFullOfSnapshots (shared_of st failures) st.machines st.window kept (snapshots_of call) count order → ⊥
  never_full lacks count_is order order_is left low task some full =
      elim full.1 [
        | inl half ↦
            let newest : List Entry = last_order call.base (snapshots_of call) in
            let same : IsPermutation (filter is_update newest ++ half.outside) (filter is_update (call_order call)) =
            subst (λ (ks : List Entry). IsPermutation (filter is_update (last_order ks (snapshots_of call)) ++ half.outside) (filter is_update (call_order call))) (sym of.base)
            (subst (λ (es : List Entry). IsPermutation (filter is_update (last_order kept (snapshots_of call)) ++ half.outside) (filter is_update es)) order_is half.same)
            in
            lacks (some_half st.window some) (subst (λ (n : ℕ). 4096 ≤ n) (sym count_is) full.0)
            (half.machine, half.below, subst (λ (n : ℕ). half_window st ≤ n) (outside_many (shared_of st failures) call of.is half.outside same half.machine) half.enough)
        | inr last ↦ both_ways (tasks_after st.graph st.program order left) (last.tasks left low) task
      ]
    where
      some_half : (window : ℕ) → 0 < window → 0 < (window + 1) / 2
      some_half window is_some = omega arith
