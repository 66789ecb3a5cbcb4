-- The lists of a call of attempts, and of a cluster to which events led.
use Rattle.std.proofs.Common.{Bool, List, [], ap, ap₂, false, filter, if◌then◌else◌, length, map, nat_le, refl, slice_index, sum_by, subst, subst₂, suc, sym, true, ℕ, ◌*◌, ◌++◌, ◌+◌, ◌/◌, ◌<◌, ◌∙◌, ◌∷◌, ◌≡◌, ◌≤◌, arith}
use Rattle.std.specs.List.{AllByRecursion, range_with_len}
use Rattle.std.proofs.lemmas.List.Sums.{sum_by-cons}
use Rattle.gl_base.specs.Lists.{AreEach}
use Rattle.gl_base.specs.declared.entries.Entry.{Entry}
use Rattle.gl_base.specs.declared.jobs.FailureAt.{FailureAt}
use Rattle.call_laws.proofs.attempts.Accounting.{call_accounted, call_kept}
use Rattle.call_laws.proofs.attempts.Failing.{call_followed, call_restarts}
use Rattle.call_laws.proofs.attempts.Opening.{call_in_turn, last_begins, opening_begins}
use Rattle.call_laws.proofs.attempts.Pieces.{call_between}
use Rattle.call_laws.specs.attempts.Accounted.{AreAccounted, AreRestarts, AreValidBetween, IsFollowedByRestart}
use Rattle.call_laws.specs.attempts.EngineCalls.{EngineCall, IsEngineCall, IsOrderInTurn, call_order, done_of, fired_of, first_ticket, last_beginning, lost_of, made_of, opening, struck_in}
use Rattle.call_laws.specs.attempts.Stores.{IsWithinWindow, last_order, snapshots_of}
use Rattle.call_laws.specs.call_answers.Answers.{HasRestarts, IsRunWithFailures, KeepsToWindow, RunLists, Shared, is_restart, is_update_below, made_by, reached_places}
use Rattle.call_laws.specs.call_answers.Ends.{FinishesRun, SpendsRun}
use Rattle.call_laws.specs.call_answers.Traces.{IsMerge, ListsOfTrace, all_logged, machine_logs}
use Rattle.cluster_laws.specs.cluster_core.Recovering.{going_on}
use Rattle.cluster_laws.specs.cluster_core.Replays.{IsTask}
use Rattle.cluster_laws.specs.cluster_core.Settings.{Setting}
use Rattle.cluster_laws.specs.cluster_model.Clusters.{BaseView, Cluster}
use Rattle.cluster_laws.specs.cluster_model.Events.{Event, recovers}
use Rattle.cluster_laws.specs.cluster_model.Machines.{completed}
use Rattle.cluster_laws.specs.cluster_model.Working.{half_window}
use Rattle.cluster_laws.specs.cluster_runs.Recorded.{shared_of}
use Rattle.whole_laws.specs.cluster_records.Few.{under_way}
use Rattle.whole_laws.specs.cluster_whole.Views.{world_of}
use Rattle.graph_core.specs.DataGraph.{size}
use Rattle.seq_run.specs.Orders.{tasks_after}
use Rattle.cluster_laws.proofs.merged_logs.PartLemmas.{logs_merge, machines_sum, updates_rise}
use Rattle.cluster_laws.specs.merged_logs.Merges.{IsByMachineBelow, logs_of}
use Rattle.call_laws.proofs.whole_calls.Calling.{the_call}
use Rattle.call_laws.specs.whole_calls.Called.{IsCallOf, KeepsWindows}
use Rattle.call_laws.specs.whole_calls.Following.{has_reached}
use Rattle.call_laws.specs.whole_calls.Opened.{IsTraceOfCall}
use Rattle.call_laws.specs.whole_calls.Saved.{AreNextOrders, AreSnapshotsOf, fronts_in, recorded_in}
use Rattle.call_laws.specs.whole_calls.Telling.{HasSavedTheEnd, CallReport}

-- as many places as failures
as_many : (done : ℕ → ℕ) (place : ℕ) (failures : List FailureAt) →
    length (reached_places done place failures) ≡ length (filter (λ (failure : FailureAt). nat_le failure.after (done failure.machine.0)) failures)
as_many done place [] = refl
as_many done place (failure ∷ failures) =
    one (nat_le failure.after (done failure.machine.0)) (as_many done (suc place) failures)
  where
    one : (b : Bool) → length (reached_places done (suc place) failures) ≡ length (filter (λ (failure : FailureAt). nat_le failure.after (done failure.machine.0)) failures) →
        length (if b then place ∷ reached_places done (suc place) failures else reached_places done (suc place) failures)
        ≡ length (if b then failure ∷ filter (λ (failure : FailureAt). nat_le failure.after (done failure.machine.0)) failures else filter (λ (failure : FailureAt). nat_le failure.after (done failure.machine.0)) failures)
    one true rest = ap suc rest
    one false rest = rest

-- the counts of so many machines, added up
listed : (machines : ℕ) (done : ℕ → ℕ) (counts : List ℕ) → AreEach machines (λ m count. count ≡ done m) counts → sum_by (λ count. count) counts ≡ sum_by done (range_with_len 0 machines)
listed machines done counts are = ap (λ (n : ℕ). sum_by (λ count. count) counts) are.count ∙ from 0 machines counts (λ k low. are.each k (subst (λ (n : ℕ). k < n) are.count low) ∙ ap done (zero_up k)) are.count
  where
    shifted : (a k : ℕ) → a + suc k ≡ (a + 1) + k
    shifted a k = omega arith

    less_suc : (k n : ℕ) → k < n → suc k < suc n
    less_suc k n is = omega arith

    zero_less : (n : ℕ) → 0 < suc n
    zero_less n = omega arith

    plus_none : (a : ℕ) → a ≡ a + 0
    plus_none a = omega arith

    zero_up : (k : ℕ) → k ≡ 0 + k
    zero_up k = omega arith

    same : (a : ℕ) (xs : List ℕ) → ((k : ℕ) → k < length xs → slice_index xs k ≡ done (a + k)) → sum_by (λ count. count) xs ≡ sum_by done (range_with_len a (length xs))
    same a [] each = refl
    same a (x ∷ xs) each =
        sum_by-cons (λ (count : ℕ). count) x xs
        ∙ ap₂ (λ (n k : ℕ). n + k) (each 0 (zero_less (length xs)) ∙ ap done (sym (plus_none a)))
        (same (a + 1) xs (λ k low. each (suc k) (less_suc k (length xs) low) ∙ ap done (shifted a k)))
        ∙ sym (sum_by-cons done a (range_with_len (a + 1) (length xs)))

    from : (a n : ℕ) (xs : List ℕ) → ((k : ℕ) → k < length xs → slice_index xs k ≡ done (a + k)) → length xs ≡ n → sum_by (λ count. count) xs ≡ sum_by done (range_with_len a n)
    from a n xs each long = subst (λ (m : ℕ). sum_by (λ count. count) xs ≡ sum_by done (range_with_len a m)) long (same a xs each)

module _ (shared : Shared) (call : EngineCall) (is : IsEngineCall shared call) (lists : RunLists) (order : lists.order ≡ call_order call) (lost : lists.lost ≡ lost_of call)
    (fired : lists.fired ≡ reached_places (done_of call) 0 shared.failures) where
  fired_many : length lists.fired ≡ length (fired_of shared call)
  fired_many = ap length fired ∙ as_many (done_of call) 0 shared.failures

  has_restarts : HasRestarts call.base call.resumed (length lists.fired) call.last.struck lists.order
  has_restarts =
      let r : AreRestarts shared call = call_restarts shared call is in
      record {
        new = r.new;
        behind = ap (filter is_restart) order ∙ r.behind;
        many = sums (length r.new) (if call.resumed then 1 else 0) (struck_in call.failed) call.last.struck (length lists.fired) r.many (fired_many ∙ r.fired);
      }
    where
      sums : (n o s l f : ℕ) → n ≡ o + s → f ≡ s + l → n + l ≡ o + f
      sums n o s l f one two = omega arith

  pub counts_sum : (machines : ℕ) → AreEach machines (λ m count. count ≡ done_of call m) lists.done → AllByRecursion (IsByMachineBelow machines) (made_of call) → sum_by (λ count. count) lists.done ≡ length (made_of call)
  counts_sum machines done below = listed machines (done_of call) lists.done done ∙ machines_sum machines (made_of call) below

  pub run_is : (machines : ℕ) → AreEach machines (λ m count. count ≡ done_of call m) lists.done → AllByRecursion (IsByMachineBelow machines) (made_of call) → IsRunWithFailures shared machines call.base call.resumed call.last.struck lists
  run_is machines done below =
      record {
        updates = made_of call;
        in_turn = subst (IsOrderInTurn shared) (sym order) (call_in_turn shared call is);
        kept = ap (filter (is_update_below (first_ticket call))) order ∙ call_kept shared call is;
        accounted = subst (λ (o : List Entry). AreAccounted shared (first_ticket call) o lists.lost (made_of call)) (sym order)
            (subst (λ (l : List Entry). AreAccounted shared (first_ticket call) (call_order call) l (made_of call)) (sym lost) (call_accounted shared call is));
        between = subst (λ (o : List Entry). AreValidBetween shared (first_ticket call) o (made_of call)) (sym order) (call_between shared call is);
        counts = done;
        sum = counts_sum machines done below;
        fired = fired;
        followed = subst (λ (o : List Entry). AllByRecursion (IsFollowedByRestart o (made_of call)) shared.failures) (sym order) (call_followed shared call is);
        restarts = has_restarts;
      }

  pub window_is : (st : Setting) (failures : List FailureAt) → shared_of st failures ≡ shared → KeepsWindows st failures call → KeepsToWindow st.window call.base (snapshots_of call) lists
  window_is st failures same keeps =
      record {
        lost = λ m. subst (λ (l : List Entry). made_by l m ≤ st.window * length lists.fired) (sym lost)
            (subst (λ (n : ℕ). made_by (lost_of call) m ≤ st.window * n) (sym (fired_many ∙ ap (λ (s : Shared). length (fired_of s call)) (sym same))) (keeps.lost m));
        outside = subst (λ (o : List Entry). IsWithinWindow st.window (last_order call.base (snapshots_of call)) o) (sym order) keeps.outside;
      }

-- ---- of a cluster to which events led

module _ (st : Setting) (failures : List FailureAt) (kept : List Entry) (resumed : Bool) (base : BaseView) (first : Cluster) (events : List Event) (c : Cluster) (lists : RunLists)
    (trace : IsTraceOfCall st failures kept resumed base first events c) (are : ListsOfTrace st failures base first events c lists) where
  all_spent : (n left budget : ℕ) → n + left ≡ budget → left ≡ 0 → n ≡ budget
  all_spent n left budget all none = omega arith

  pub trace_runs : (call : EngineCall)
      × IsCallOf st failures kept resumed c call
      × IsRunWithFailures (shared_of st failures) st.machines kept resumed call.last.struck lists
      × (lists.order ≡ call_order call)
      × (st.stored ≡ true → KeepsToWindow st.window kept (snapshots_of call) lists)
      × AreSnapshotsOf st base.number kept (recorded_in (going_on st base.numbers base.number) (recovers st base first) events) (snapshots_of call)
      × AreNextOrders st kept (fronts_in (going_on st base.numbers base.number) (recovers st base first) events) (recorded_in (going_on st base.numbers base.number) (recovers st base first) events) (snapshots_of call)
      × (0 < half_window st → length (snapshots_of call) + under_way c ≤ first.left / half_window st + 1)
      × (sum_by (λ count. count) lists.done + c.left ≡ first.left)
      × CallReport st first.left c call
      × (st.stored ≡ true → HasSavedTheEnd st c.coordinator → FinishesRun true (shared_of st failures) kept (snapshots_of call) call.last.struck lists)
      × ((left : ℕ) → c.left ≡ 0 → ((a : ℕ) → a < st.machines → has_reached failures c a ≡ false) → left < size st.graph → IsTask st (world_of c) left →
      SpendsRun (shared_of st failures) first.left left call.last.struck lists)
  trace_runs =
      let made = the_call st failures kept resumed base first events c trace in
      let call : EngineCall = made.0 in
      let of : IsCallOf st failures kept resumed c call = made.1 in
      let is : IsEngineCall (shared_of st failures) call = of.is in
      let logs : machine_logs st.machines c ≡ logs_of st.machines call.last.made = ap (λ (log : ℕ → List Entry). map log (range_with_len 0 st.machines)) (λ i. λ m. of.logs m i) in
      let merged : are.merged ≡ call.last.made = logs_merge st.machines call.last.made are.merged (updates_rise (last_beginning call).next call.last.made (last_begins (shared_of st failures) (opening call) call.failed call.last (opening_begins (shared_of st failures) call is) is.attempts).1.tickets) of.machines
      (subst (λ (ls : List (List Entry)). IsMerge (all_logged ls) are.merged) logs are.merges) in
      let order : lists.order ≡ call_order call = are.order ∙ ap₂ (λ (xs ys : List Entry). xs ++ ys) of.front merged in
      let lost : lists.lost ≡ lost_of call = sym (made.6 lists.lost are.lost) in
      let counts : (λ (m : ℕ). completed (c.machine m)) ≡ done_of call = λ i. λ m. of.done m i in
      let fired : lists.fired ≡ reached_places (done_of call) 0 failures = are.fired ∙ ap (λ (done : ℕ → ℕ). reached_places done 0 failures) counts in
      let done : AreEach st.machines (λ m count. count ≡ done_of call m) lists.done = subst (λ (all : ℕ → ℕ). AreEach st.machines (λ m count. count ≡ all m) lists.done) counts are.done in (
        call,
        of,
        subst₂ (λ (ks : List Entry) (r : Bool). IsRunWithFailures (shared_of st failures) st.machines ks r call.last.struck lists) of.base of.was_resumed
            (run_is (shared_of st failures) call is lists order lost fired st.machines done made.8),
        order,
        λ stored. subst (λ (ks : List Entry). KeepsToWindow st.window ks (snapshots_of call) lists) of.base (window_is (shared_of st failures) call is lists order lost fired st failures refl (made.2 stored)),
        made.3,
        made.7,
        made.4,
        ap (λ (n : ℕ). n + c.left) (counts_sum (shared_of st failures) call is lists order lost fired st.machines done made.8) ∙ made.5.spent,
        made.5,
        λ stored end. record {
          finished = λ u low. ap (λ (es : List Entry). tasks_after st.graph st.program es u) order ∙ made.5.tasks end.end u low;
          answered = made.5.unharmed end.end;
          some = λ _. made.5.some stored end;
          saved = λ _. ap (λ (ks : List Entry). last_order ks (snapshots_of call)) (sym of.base) ∙ made.5.saved stored end ∙ sym order;
        },
        λ left none unreached low task. record {
          spent = all_spent (sum_by (λ count. count) lists.done) c.left first.left
              (ap (λ (n : ℕ). n + c.left) (counts_sum (shared_of st failures) call is lists order lost fired st.machines done made.8) ∙ made.5.spent) none;
          answered = made.9 unreached;
          inside = low;
          task = ap (λ (es : List Entry). tasks_after st.graph st.program es left) order ∙ (of.tasks left low).1 task;
        },
      )
