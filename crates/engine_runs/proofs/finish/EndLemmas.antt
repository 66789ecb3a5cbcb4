-- As the course of a call ends, its lists end.
use Rattle.std.proofs.Common.{Bool, List, [], ap, ap₂, filter, inl, length, length-append, true, true≢false, map, refl, subst, subst₂, sym, ℕ, ◌++◌, ◌+◌, ◌<◌, ◌∙◌, ◌∷◌, ◌≡◌, ◌≤◌, arith}
use Rattle.std.specs.List.{range_with_len}
use Rattle.std.specs.Prelude.{sum_by}
use Rattle.gl_base.specs.Lists.{AreEach}
use Rattle.gl_base.specs.declared.entries.Entry.{Entry}
use Rattle.call_laws.proofs.attempts.Opening.{last_begins, opening_begins}
use Rattle.call_laws.specs.attempts.EngineCalls.{EngineCall, IsEngineCall, call_order, done_of, last_beginning, lost_of, opening}
use Rattle.call_laws.specs.attempts.Stores.{last_order, snapshots_of}
use Rattle.call_laws.proofs.call_answers.Listing.{counts_sum, run_is, window_is}
use Rattle.call_laws.specs.attempts.Entries.{is_restart}
use Rattle.call_laws.specs.call_answers.Answers.{IsRunWithFailures, KeepsToWindow}
use Rattle.call_laws.specs.call_answers.Traces.{IsMerge, ListsOfTrace, all_logged, machine_logs}
use Rattle.cluster_step.specs.trace.Calls.{HasEndedCall, LeavesNothing, MakesCall}
use Rattle.cluster_step.specs.trace.Traces.{CallOpening, Cluster, TraceView, IsTraceNow, Machine, Setting, first_cluster, first_setting}
use Rattle.engine_runs.specs.finish.Ends.{IsEndedRun, IsKnownTrace, NoneReached, PauseMeaning, SpendsRun, orders_behind, records_size, shared_of, stored_order}
use Rattle.engine_runs.specs.finish.Gathered.{IsTaskIn, RunLists, reached_places}
use Rattle.cluster_step.specs.declared.drive.pauses.Pause.TheVariants as pause
use Rattle.gl_base.specs.declared.numbers.Vertex.{Vertex}
use Rattle.engine_runs.proofs.Sizes.{orders_many}
use Rattle.engine_runs.proofs.finish.RoomLemmas.{needs_room, never_full}
use Rattle.cluster_laws.specs.cluster_model.Leading.{Snapshot}
use Rattle.cluster_laws.specs.cluster_model.Machines.{completed}
use Rattle.cluster_laws.proofs.merged_logs.PartLemmas.{logs_merge, updates_rise}
use Rattle.cluster_laws.specs.merged_logs.Merges.{logs_of}
use Rattle.recovery.proofs.Goodness.{last_behind}
use Rattle.recovery.specs.Journals.{body_entries, order_behind, with_entries}
use Rattle.seq_run.specs.Orders.{tasks_after}
use Rattle.store.specs.declared.store_format.header.Header.{Header}
use Rattle.call_laws.proofs.whole_calls.Calling.{the_call}
use Rattle.call_laws.proofs.whole_calls.Fronting.{next_once}
use Rattle.call_laws.proofs.whole_calls.Leading.{behind_since}
use Rattle.call_laws.specs.whole_calls.Called.{IsCallOf}
use Rattle.call_laws.specs.whole_calls.Saved.{AreNextOrders, fronts_in, recorded_in}

sum_few : (n left budget : ℕ) → n + left ≡ budget → n ≤ budget
sum_few n left budget all = omega arith

none_left : (made left budget : ℕ) → made + left ≡ budget → made ≡ budget → left ≡ 0
none_left made left budget all spent = omega arith

behind_joined : (order : List Entry) (xs ys : List (List ℕ)) → order_behind (order_behind order xs) ys ≡ order_behind order (xs ++ ys)
behind_joined order [] ys = refl
behind_joined order (x ∷ xs) ys = behind_joined (with_entries order (body_entries x)) xs ys

module _ {M : Type 0} (represents : Setting → ℕ → Machine → M → Type 0) (v : TraceView M) (header : Header) (start bodies : List (List ℕ)) (lost stored front order : List Entry) (st : Setting) (o : CallOpening)
    (known : IsKnownTrace represents v header start bodies lost stored front order st o) (lists : RunLists) (are : ListsOfTrace st v.failures o.base o.first known.was.events known.was.cluster lists) where
  abbrev c : Cluster
  c = known.was.cluster

  abbrev now : IsTraceNow represents v st o known.was.events c
  now = known.was.now

  abbrev fronts : List (List Entry)
  fronts = fronts_in (first_setting st o) (first_cluster st o) known.was.events

  abbrev taken : List Snapshot
  taken = recorded_in (first_setting st o) (first_cluster st o) known.was.events

  -- as many machines as the setting has
  machines_are : length v.now.machines.items ≡ st.machines
  machines_are = now.code.many ∙ ap (λ (s : Setting). s.machines) (behind_since known.was.events (first_setting st o))

  pub ended : IsEndedRun represents v start bodies st o known.was.events c lists
  ended =
      let made = the_call st v.failures o.kept o.resumed o.base o.first known.was.events c now.trace in
      let call : EngineCall = made.0 in
      let of : IsCallOf st v.failures o.kept o.resumed c call = made.1 in
      let is : IsEngineCall (shared_of st v.failures) call = of.is in
      let makes : MakesCall st v.failures o known.was.events c call = record { is = of; windows = made.2; snapshots = made.3; few = made.4; tells = made.5; lost = made.6; orders = made.7; owners = made.8 } in
      let logs : machine_logs st.machines c ≡ logs_of st.machines call.last.made = ap (λ (log : ℕ → List Entry). map log (range_with_len 0 st.machines)) (λ i. λ m. of.logs m i) in
      let merged : are.merged ≡ call.last.made = logs_merge st.machines call.last.made are.merged (updates_rise (last_beginning call).next call.last.made (last_begins (shared_of st v.failures) (opening call) call.failed call.last (opening_begins (shared_of st v.failures) call is) is.attempts).1.tickets) of.machines
      (subst (λ (ls : List (List Entry)). IsMerge (all_logged ls) are.merged) logs are.merges) in
      let order_is : lists.order ≡ call_order call = are.order ∙ ap₂ (λ (xs ys : List Entry). xs ++ ys) of.front merged in
      let lost_is : lists.lost ≡ lost_of call = sym (made.6 lists.lost are.lost) in
      let counts : (λ (m : ℕ). completed (c.machine m)) ≡ done_of call = λ i. λ m. of.done m i in
      let fired : lists.fired ≡ reached_places (done_of call) 0 v.failures = are.fired ∙ ap (λ (done : ℕ → ℕ). reached_places done 0 v.failures) counts in
      let done : AreEach st.machines (λ m count. count ≡ done_of call m) lists.done = subst (λ (all : ℕ → ℕ). AreEach st.machines (λ m count. count ≡ all m) lists.done) counts are.done in
      let added : List (List ℕ) = known.was.keeps.added in
      let once : orders_behind (stored_order start) added ≡ snapshots_of call =
      next_once st (stored_order start) fronts taken (orders_behind (stored_order start) added) (snapshots_of call) known.was.keeps.orders
      (subst (λ (ks : List Entry). AreNextOrders st ks fronts taken (snapshots_of call)) known.kept made.7) in
      let sum : sum_by (λ count. count) lists.done + c.left ≡ o.first.left =
      ap (λ (n : ℕ). n + c.left) (counts_sum (shared_of st v.failures) call is lists order_is lost_is fired st.machines done made.8) ∙ made.5.spent in
      let unharmed : NoneReached represents v → call.last.struck ≡ 0 = λ none. made.9 (λ a low. none a (subst (λ (n : ℕ). a < n) (sym machines_are) low) st o known.was.events c now) in
      let spends : PauseMeaning represents v pause.Spent → (left : Vertex) → IsTaskIn st c left.0 → SpendsRun (shared_of st v.failures) o.first.left left.0 call.last.struck lists = λ paused left task. record {
        spent = counts_sum (shared_of st v.failures) call is lists order_is lost_is fired st.machines done made.8 ∙ (paused.1 st o known.was.events c now call makes).0;
        answered = unharmed paused.0;
        inside = task.0;
        task = ap (λ (es : List Entry). tasks_after st.graph st.program es left.0) order_is ∙ (of.tasks left.0 task.0).1 (inl task.1);
      } in
      record {
        call = call;
        makes = makes;
        added = added;
        stored = known.was.keeps.stored;
        snapshots = once;
        is = subst₂ (λ (ks : List Entry) (r : Bool). IsRunWithFailures (shared_of st v.failures) st.machines ks r call.last.struck lists) of.base of.was_resumed
            (run_is (shared_of st v.failures) call is lists order_is lost_is fired st.machines done made.8);
        keeps = λ takes. subst (λ (ks : List Entry). KeepsToWindow st.window ks (snapshots_of call) lists) of.base (window_is (shared_of st v.failures) call is lists order_is lost_is fired st v.failures refl (made.2 takes));
        few = sum_few (sum_by (λ count. count) lists.done) c.left o.first.left sum;
        finished = λ takes saves paused. let has : HasEndedCall st call = paused.1 st o known.was.events c now call makes in record {
          finished = λ u low. ap (λ (es : List Entry). tasks_after st.graph st.program es u) order_is ∙ has.tasks u low;
          answered = has.unharmed;
          some = λ _. has.some takes;
          saved = λ _. ap (λ (ks : List Entry). last_order ks (snapshots_of call)) (sym of.base) ∙ has.saved takes ∙ sym order_is;
        };
        quiet = λ paused. let leaves : LeavesNothing st call = paused.1 st o known.was.events c now call makes in record {
          finished = λ u low. ap (λ (es : List Entry). tasks_after st.graph st.program es u) order_is ∙ leaves.tasks u low;
          answered = leaves.unharmed;
          some = λ saves. absurd (true≢false (sym saves));
          saved = λ saves. absurd (true≢false (sym saves));
        };
        spent = spends;
        spent_room = λ takes paused left task saves.
            let spent = paused.1 st o known.was.events c now call makes in
            let spends_all = spends paused left task in (
              spends_all,
              never_full st v.failures o.kept o.resumed c call of (length start + length (snapshots_of call)) 0 [] [] [] (spent.2 takes)
                  (known.count ∙ ap (length {A = List ℕ}) known.was.keeps.stored ∙ length-append start added ∙ ap (λ (n : ℕ). length start + n) (sym (orders_many (stored_order start) added) ∙ ap (length {A = List Entry}) once))
                  lists.order order_is left.0 task.0 spends_all.task,
            );
        full = λ none needs saves. (
          unharmed none,
          needs_room st v.failures o.kept o.resumed c call of (length bodies) (65 + records_size bodies) stored front bodies
              (ap (λ (ks : List Entry). last_order ks (snapshots_of call)) known.kept ∙ ap (last_order (stored_order start)) (sym once) ∙ last_behind (stored_order start) added
              ∙ behind_joined [] start added ∙ ap stored_order (sym known.was.keeps.stored))
              known.stored_are (known.front_are ∙ ap (filter is_restart) (sym known.base)) known.count known.place lists.order order_is needs.1,
        );
      }
