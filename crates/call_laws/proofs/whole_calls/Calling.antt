-- What the events of a call make, part by part.
use Rattle.std.proofs.Common.{◌≡◌, ◌⊎◌, ℕ, zero, suc, ◌+◌, ◌/◌, ◌<◌, ◌≤◌, Bool, true, false, filter, if◌then◌else◌, List, [], ◌∷◌, ◌++◌, length, map, sum_by, inl, inr, refl, sym, ◌∙◌, ap, ap₂, subst, ⊎_elim, append-nil, arith}
use Rattle.std.proofs.lemmas.Bool.{both_ways, cases_eq, cond-false, false_from_ne_true}
use Rattle.std.specs.List.{AllByRecursion}
use Rattle.std.proofs.lemmas.List.{append_cancel_left, length-append, length-map}
use Rattle.gl_base.specs.declared.entries.Entry.{Entry}
use Rattle.gl_base.specs.declared.entries.Entry.TheVariants.{Restart}
use Rattle.gl_base.specs.declared.jobs.FailureAt.{FailureAt}
use Rattle.graph_core.proofs.HalvesLaws.{each-append}
use Rattle.graph_core.specs.DataGraph.{size}
use Rattle.cluster_laws.specs.merged_logs.Merges.{IsByMachineBelow, IsMerge}
use Rattle.call_laws.specs.attempts.Beginnings.{held_updates, order_after, snapshot_order, unheld_updates}
use Rattle.call_laws.specs.attempts.EngineCalls.{EngineCall, IsOrderInTurn, begins_behind, call_order, lost_of, made_in, made_of, ticket_above}
use Rattle.call_laws.specs.attempts.Entries.{is_restart}
use Rattle.call_laws.specs.attempts.Stores.{attempted_snapshots, last_order, snapshot_orders, snapshots_of}
use Rattle.call_laws.proofs.attempts.Prefixes.{last_order_append}
use Rattle.call_laws.proofs.attempts.Storing.{full_is}
use Rattle.call_laws.specs.cluster_attempts.CallsSoFar.{counts_of}
use Rattle.call_laws.specs.cluster_attempts.Failures.{done_before, done_now}
use Rattle.call_laws.proofs.cluster_attempts.Making.{held_is, struck_same}
use Rattle.cluster_laws.specs.cluster_core.Recovering.{going_on}
use Rattle.cluster_laws.specs.cluster_core.Settings.{Setting}
use Rattle.cluster_laws.specs.cluster_core.Ways.{vertex_woken}
use Rattle.cluster_laws.specs.cluster_core.Worlds.{way}
use Rattle.whole_laws.specs.cluster_ending.Watched.{HasNoTaskLeft}
use Rattle.whole_laws.proofs.cluster_ending.Traces.{start_followed}
use Rattle.whole_laws.proofs.cluster_ending.Finding.{no_task_left}
use Rattle.whole_laws.proofs.cluster_ending.Leaving.{none_woken}
use Rattle.cluster_laws.specs.cluster_model.Clusters.{BaseView, Cluster, report_way}
use Rattle.cluster_laws.specs.cluster_model.ByTicket.{restarts}
use Rattle.cluster_laws.specs.cluster_model.Events.{Event, GoesBackTo, PutBegin, Record, after_event, failures_in, recovers, setting_after}
use Rattle.cluster_laws.specs.cluster_model.Leading.{HasSeenTheEnd, HasStoreRoom, HoldsAll, RecordIsDue, Snapshot, SnapshotIsDue, entries_in, updates_told}
use Rattle.cluster_laws.specs.cluster_model.Machines.{outside}
use Rattle.cluster_laws.specs.cluster_model.Working.{half_window}
use Rattle.cluster_laws.specs.cluster_runs.Attempts.{Attempt, Beginning}
use Rattle.cluster_laws.specs.cluster_runs.Recorded.{shared_of}
use Rattle.whole_laws.specs.cluster_whole.Logged.{Logged, all_entries, entries_to}
use Rattle.whole_laws.specs.cluster_whole.Views.{world_of}
use Rattle.whole_laws.specs.cluster_whole.Whole.{setting_behind}
use Rattle.whole_laws.proofs.cluster_whole.Flows.{total_from-none, total_from-same}
use Rattle.whole_laws.specs.cluster_records.Recorded.{HaveSameNumbers, snapshot_due}
use Rattle.whole_laws.specs.cluster_records.Few.{snapshot_at, snapshots_in_all, unasked_in, under_way}
use Rattle.whole_laws.specs.cluster_records.Wanting.{known_by_calls, numbers_from, want_told}
use Rattle.whole_laws.proofs.cluster_records.Asking.{counted}
use Rattle.whole_laws.proofs.cluster_records.Fewness.{attempts_few, by_half}
use Rattle.whole_laws.proofs.cluster_records.Outside.{many_outside}
use Rattle.seq_run.specs.Orders.{replay, tasks_after}
use Rattle.seq_run.specs.States.{GraphState}
use Rattle.call_laws.specs.whole_calls.Called.{IsCallOf, KeepsWindows}
use Rattle.call_laws.specs.whole_calls.Following.{has_reached}
use Rattle.call_laws.specs.whole_calls.Lost.{AreLostIn, TakesAway, all_logged, is_lacking, machine_logs}
use Rattle.call_laws.specs.whole_calls.Opened.{IsTraceOfCall}
use Rattle.call_laws.specs.whole_calls.Saved.{AreNextOrders, AreSnapshotsOf, fronts_in, IsSnapshotOf, recorded_at, recorded_in}
use Rattle.call_laws.specs.whole_calls.Telling.{AsksForNone, HasHalfOutside, HasSavedTheEnd, NeedsMoreStore, CallReport, length_with}
use Rattle.call_laws.proofs.whole_calls.Acknowledged.{good_snapshots, pending_is, snapshots_append, snapshots_long}
use Rattle.call_laws.proofs.whole_calls.Ending.{EndsBehind, GoOnFrom, all_fronted, HasAskedAll, IsEnding, IsPlain, traces_end, which}
use Rattle.call_laws.proofs.whole_calls.Fronting.{all_in_turn, next_once, next_orders}
use Rattle.call_laws.proofs.whole_calls.Going.{IsInCall}
use Rattle.call_laws.proofs.whole_calls.Holding.{holds_only, told_many}
use Rattle.call_laws.proofs.whole_calls.Leading.{behind_since, call_of, call_then, call_with, is_call, opened_at, opened_in, since, windows_are, windows_then}
use Rattle.call_laws.proofs.whole_calls.Owning.{begins_own, due_says}
use Rattle.call_laws.proofs.whole_calls.Reaching.{one_at, reached_many}
use Rattle.call_laws.proofs.whole_calls.Lacking.{lacking_taken}
use Rattle.call_laws.proofs.whole_calls.Returning.{may_return}
use Rattle.call_laws.proofs.whole_calls.Refusing.{made_none, newest_is, nil_of, refused_by}
use Rattle.call_laws.proofs.whole_calls.Waved.{end_unreached, recovered_late}
use Rattle.call_laws.proofs.whole_calls.Windowed.{unheld_many}

-- ---- of the state where events lead

of_budget : (n left first budget made : ℕ) → n + left ≡ first + budget → n ≡ first + made → made + left ≡ budget
of_budget n left first budget made one other = omega arith

-- a machine of which no word is on its way knows of the last snapshot
none_late : (late known newest : ℕ) → newest ≡ known + late → numbers_from (suc known) late ≡ [] → known ≡ newest
none_late zero known newest is none = sym (is ∙ plus_zero known)
  where
    plus_zero : (n : ℕ) → n + 0 ≡ n
    plus_zero n = omega arith
none_late (suc late) known newest is none = absurd (cc)

one_some : (n : ℕ) → 1 ≤ suc n
one_some n = omega arith

module _ (failures : List FailureAt) (kept : List Entry) (resumed : Bool) (number budget : ℕ) (st : Setting) (c : Cluster) (logged : List Logged) (failed : List Attempt) (taken : List Snapshot) (unasked : ℕ)
    (e : IsEnding failures (opened_at kept resumed) kept number (ticket_above kept + budget) st c logged failed taken unasked)
    (in_turn : IsOrderInTurn (shared_of st failures) kept) (begins_with : (resumed ≡ true) ⊎ ((resumed ≡ false) × (kept ≡ []))) where
  abbrev at : IsInCall failures (opened_at kept resumed) st c logged failed
  at = e.at

  abbrev made_call : EngineCall
  made_call = call_with failures kept resumed c logged failed

  abbrev behind : Beginning
  behind = begins_behind (opened_at kept resumed) failed

  its_call : IsCallOf st failures kept resumed c made_call
  its_call = call_of failures kept resumed st c logged failed at in_turn begins_with

  orders_are : AreSnapshotsOf st number kept taken (snapshots_of made_call)
  orders_are =
      let snapshots : List Snapshot = c.coordinator.snapshots in
      let orders : List (List Entry) = snapshot_orders behind made_call.last in
      let newest : List Entry = last_order kept (attempted_snapshots (opened_at kept resumed) failed) in
      subst (λ (ss : List Snapshot). AreSnapshotsOf st number kept ss (snapshots_of made_call)) (sym e.taken_are)
      (snapshots_append st number kept e.earlier snapshots (attempted_snapshots (opened_at kept resumed) failed) orders e.orders
      (subst (λ (n : ℕ). AreSnapshotsOf st n newest snapshots orders) e.numbered
      (good_snapshots st at.is c at.whole logged at.account at.based failures behind at.so.front at.so.tickets newest e.resumes)))

  none_left : HasNoTaskLeft st (world_of c) → (u : ℕ) → u < size st.graph → tasks_after st.graph st.program (call_order made_call) u ≡ false
  none_left left u low =
      false_from_ne_true (tasks_after st.graph st.program (call_order made_call) u) (λ task.
      ⊎_elim
      (λ (own : (c.machine (st.owner u)).part.task u ≡ true). both_ways ((c.machine (st.owner u)).part.task u) (left.tasks (st.owner u) (at.is.owner u low) u low) own)
      (λ (woken : (p : ℕ) × (vertex_woken u (way (world_of c) p (st.owner u)) ≡ true)).
      both_ways (vertex_woken u (way (world_of c) woken.0 (st.owner u))) (none_woken st at.is (world_of c) at.whole.consistent.copies.told left woken.0 (st.owner u) u) woken.1)
      ((its_call.tasks u low).0 task))

  unreached_struck : ((a : ℕ) → a < st.machines → has_reached failures c a ≡ false) → made_call.last.struck ≡ 0
  unreached_struck none =
      sym (struck_same st at.is c at.whole logged at.account failures behind at.so.done)
      ∙ sym (reached_many (done_before c) (done_now c) st.machines failures at.ordered.owned at.ordered.different at.stops)
      ∙ total_from-same 0 st.machines (λ a. 0) (one_at (done_before c) (done_now c) failures)
      (λ a from to. cond-false (has_reached failures c a) 1 0 (none a (in_range a st.machines to)))
      ∙ total_from-none 0 st.machines (λ a. 0) (λ a. refl)
    where
      in_range : (a n : ℕ) → a < 0 + n → a < n
      in_range a n low = omega arith

  none_struck : HasSeenTheEnd c.coordinator → made_call.last.struck ≡ 0
  none_struck end = unreached_struck (λ a low. end_unreached failures (opened_at kept resumed) st c logged failed at e.watch e.watched e.late end a low)

  some_kept : st.stored ≡ true → HasSavedTheEnd st c.coordinator → (snapshots : List Snapshot) → c.coordinator.snapshots ≡ snapshots → 1 ≤ length snapshots
  some_kept stored ended [] is = absurd (ended.all (record { stored = stored; none = ended.none; wanted = inr (ended.end, inr is) }))
  some_kept stored ended (snapshot ∷ snapshots) is = one_some (length snapshots)

  kept_long : (snapshots : List Snapshot) → length (counts_of logged snapshots) ≡ length snapshots
  kept_long [] = refl
  kept_long (snapshot ∷ snapshots) = ap suc (kept_long snapshots)

  saved_all : st.stored ≡ true → HasSavedTheEnd st c.coordinator → last_order kept (snapshots_of made_call) ≡ call_order made_call
  saved_all stored ended =
      let full : HoldsAll st c.coordinator = ⊎_elim
      (λ (yes_full : sum_by updates_told c.coordinator.rounds.counting.waves.wave ≡ entries_in st c.coordinator). yes_full)
      (λ (no_full : sum_by updates_told c.coordinator.rounds.counting.waves.wave ≡ entries_in st c.coordinator → ⊥).
      absurd (ended.all (record { stored = stored; none = ended.none; wanted = inr (ended.end, inl no_full) })))
      (cases_eq (sum_by updates_told c.coordinator.rounds.counting.waves.wave) (entries_in st c.coordinator)) in
      full_is (shared_of st failures) made_call (is_call failures kept resumed st c logged failed at in_turn begins_with)
      (subst (λ (n : ℕ). 1 ≤ n) (sym (kept_long c.coordinator.snapshots)) (some_kept stored ended c.coordinator.snapshots refl))
      (held_is st at.is c at.whole logged at.account failures behind at.so.tickets ∙ holds_only st at.is c at.whole logged at.account e.watch e.watched ended.end full)

  some_saved : st.stored ≡ true → HasSavedTheEnd st c.coordinator → 1 ≤ length (snapshots_of made_call)
  some_saved stored ended =
      more_some (length (attempted_snapshots (opened_at kept resumed) failed)) (length c.coordinator.snapshots) (length (snapshots_of made_call))
      (length-append (attempted_snapshots (opened_at kept resumed) failed) (snapshot_orders behind made_call.last)
      ∙ ap (λ (n : ℕ). length (attempted_snapshots (opened_at kept resumed) failed) + n) (length-map (counts_of logged c.coordinator.snapshots) (snapshot_order behind made_call.last) ∙ kept_long c.coordinator.snapshots))
      (some_kept stored ended c.coordinator.snapshots refl)
    where
      more_some : (before last all : ℕ) → all ≡ before + last → 1 ≤ last → 1 ≤ all
      more_some before last all is some = omega arith

  -- ---- where the store takes no record more

  abbrev newest : List Entry
  newest = last_order kept (attempted_snapshots (opened_at kept resumed) failed)

  last_is : last_order kept (snapshots_of made_call) ≡ last_order newest (snapshot_orders behind made_call.last)
  last_is = last_order_append kept (attempted_snapshots (opened_at kept resumed) failed) (snapshot_orders behind made_call.last)

  abbrev LastIsOther : Type 0
  LastIsOther = (snapshots_of made_call ≡ []) ⊎ (last_order kept (snapshots_of made_call) ≡ call_order made_call → ⊥)

  -- no snapshot was acknowledged in the last attempt
  none_last : c.coordinator.snapshots ≡ [] → LastIsOther
  none_last none =
      let orders : snapshot_orders behind made_call.last ≡ [] = ap (λ (ss : List Snapshot). map (snapshot_order behind made_call.last) (counts_of logged ss)) none in
      ⊎_elim
      (λ (first : failed ≡ []). inl (ap₂ (λ (xs ys : List (List Entry)). xs ++ ys) (ap (attempted_snapshots (opened_at kept resumed)) first) orders))
      (λ (off : behind.front ≡ newest → ⊥).
      inr (λ same.
      let all : newest ≡ order_after behind made_call.last = sym (ap (last_order newest) orders) ∙ sym last_is ∙ same in
      let nothing_made : made_call.last.made ≡ [] = made_none newest behind made_call.last e.resumes all in
      off (sym (all ∙ ap (λ (es : List Entry). behind.front ++ es) nothing_made ∙ append-nil behind.front))))
      e.behind

  -- or the last one lacks something
  other_last : (entries_to c.coordinator.acknowledged logged ≡ all_entries logged → ⊥) → LastIsOther
  other_last not =
      inr (λ same.
      ⊎_elim
      (λ (none : (made_call.last.kept ≡ []) × (last_order newest (snapshot_orders behind made_call.last) ≡ newest)).
      let nothing_made : made_call.last.made ≡ [] = made_none newest behind made_call.last e.resumes (sym none.1 ∙ sym last_is ∙ same) in
      let nothing_logged : logged ≡ [] = nil_of logged (sym (length-map logged (λ (l : Logged). l.entry)) ∙ ap (λ (es : List Entry). length es) nothing_made) in
      not (ap (entries_to c.coordinator.acknowledged) nothing_logged ∙ sym (ap all_entries nothing_logged)))
      (λ (held : last_order newest (snapshot_orders behind made_call.last) ≡ behind.front ++ held_updates made_call.last).
      not (sym (held_is st at.is c at.whole logged at.account failures behind at.so.tickets)
      ∙ append_cancel_left behind.front (held_updates made_call.last) made_call.last.made (sym held ∙ sym last_is ∙ same)))
      (newest_is newest behind made_call.last))

  many_under : c.coordinator.acknowledged < c.coordinator.begun → 4096 ≤ c.coordinator.acknowledged → NeedsMoreStore st c.coordinator made_call
  many_under under many = (
    under,
    inl (
      many,
      ⊎_elim
          (λ (half : (m : ℕ) × (m < st.machines) × (half_window st ≤ many_outside m c.coordinator.acknowledged logged)).
          inl (half.0, half.1, subst (λ (n : ℕ). half_window st ≤ n) (sym (unheld_many st at.is c at.whole logged at.account failures behind at.so.tickets half.0)) half.2))
          (λ (done : HasNoTaskLeft st (world_of c) × ((c.coordinator.snapshots ≡ []) ⊎ (entries_to c.coordinator.acknowledged logged ≡ all_entries logged → ⊥))).
          inr (none_left done.0, ⊎_elim none_last other_last done.1))
          (e.reason under),
    ),
  )

  many_stored : (c.coordinator.acknowledged ≡ c.coordinator.begun → ⊥) → 4096 ≤ c.coordinator.acknowledged → NeedsMoreStore st c.coordinator made_call
  many_stored off many =
      many_under
      (⊎_elim
      (λ (same : c.coordinator.begun ≡ c.coordinator.acknowledged). absurd (off (sym same)))
      (λ (next : c.coordinator.begun ≡ suc c.coordinator.acknowledged). one_above c.coordinator.acknowledged c.coordinator.begun next)
      at.whole.consistent.marks.under)
      many
    where
      one_above : (n k : ℕ) → k ≡ suc n → n < k
      one_above n k is = omega arith

  needs_more : RecordIsDue st c.coordinator → (HasStoreRoom st c.coordinator → ⊥) → NeedsMoreStore st c.coordinator made_call
  needs_more due refused =
      ⊎_elim
      (λ (many : 4096 ≤ c.coordinator.acknowledged). many_under due.under many)
      (λ (long : 1073741824 < c.coordinator.store_end + length_with st (length (unheld_updates made_call.last))). (due.under, inr long))
      (refused_by st at.is c at.whole logged at.account failures behind at.so.tickets due refused)

  -- who knows of the last snapshot and lacks half of its window there has asked, and the coordinator would know
  none_outside : AsksForNone st c → HasHalfOutside st made_call.last → ⊥
  none_outside none half =
      let m : ℕ = half.0 in
      let way = none.quiet m half.1 in
      let counting = at.asking.counting m half.1 in
      let its = at.asking.asking m half.1 in
      let newest : (c.machine m).acknowledged ≡ c.coordinator.acknowledged =
      none_late counting.late (c.machine m).acknowledged c.coordinator.acknowledged counting.newest (sym counting.commits ∙ ap known_by_calls way.0) in
      let outside_half : half_window st ≤ outside (c.machine m) =
      subst (λ (n : ℕ). half_window st ≤ n)
      (unheld_many st at.is c at.whole logged at.account failures behind at.so.tickets m ∙ ap (λ (k : ℕ). many_outside m k logged) (sym newest) ∙ sym (counted st at.is c at.whole logged at.account.lists at.asking m half.1))
      half.2 in
      ⊎_elim
      (λ (told : want_told (c.machine m).acknowledged (report_way c m) ≡ true). not_told (sym (ap (want_told (c.machine m).acknowledged) way.1) ∙ told))
      (λ (wanted : c.coordinator.wanted ≡ true). none.settled.due (record { stored = none.stored; none = none.settled.none; wanted = inl wanted }))
      (its.told (its.asked none.half none.stored outside_half) newest)
    where
      not_told : false ≡ true → ⊥
      not_told is = cc

  tells : CallReport st budget c made_call
  tells =
      record {
        tasks = λ end. none_left (no_task_left st c e.watch e.watched end);
        unharmed = none_struck;
        told = λ end. told_many st at.is c at.whole logged at.account e.watch e.watched end ∙ sym (length-map logged (λ (l : Logged). l.entry));
        some = some_saved;
        saved = saved_all;
        pending = λ due.
            let may = pending_is st at.is c at.whole logged at.account at.based failures behind at.so.front at.so.tickets newest e.resumes due in
            (may.0, may.1, may.2, subst (λ (order : List Entry). IsSnapshotOf st c.coordinator.begun order (snapshot_order behind made_call.last may.0) (snapshot_due c.coordinator)) (sym last_is) may.3, due_says st at.is c at.whole e.own logged at.account due);
        full = needs_more;
        many = many_stored;
        unasked = none_outside;
        spent = of_budget c.next c.left (ticket_above kept) budget (length (made_of made_call)) e.tickets its_call.next;
      }

-- ---- of the events

-- as many snapshots as records
recorded_one : (c : Cluster) (event : Event) → length (recorded_at c event) ≡ snapshot_at event
recorded_one c event =
    ⊎_elim
    (λ (begins : event ≡ PutBegin). subst (λ (x : Event). length (recorded_at c x) ≡ snapshot_at x) (sym begins) refl)
    (λ (rest : (event ≡ Record) ⊎ IsPlain event). ⊎_elim
    (λ (records : event ≡ Record). subst (λ (x : Event). length (recorded_at c x) ≡ snapshot_at x) (sym records) refl)
    (λ (plain : IsPlain event). ap (λ (ss : List Snapshot). length ss) (plain.adds c) ∙ sym plain.counts)
    rest)
    (which event)

recorded_many : (events : List Event) (st : Setting) (c : Cluster) → length (recorded_in st c events) ≡ snapshots_in_all events
recorded_many [] st c = refl
recorded_many (event ∷ events) st c =
    length-append (recorded_at c event) (recorded_in (setting_after st event) (after_event st c event) events)
    ∙ ap₂ (λ (n k : ℕ). n + k) (recorded_one c event) (recorded_many events (setting_after st event) (after_event st c event))

one_at_most : (n stored share : ℕ) → stored ≤ share + n → (0 + n ≡ 0) ⊎ (0 + n ≡ 1) → stored ≤ share + 1
one_at_most n stored share few once = ⊎_elim (λ (none : 0 + n ≡ 0). with_none n stored share few none) (λ (one : 0 + n ≡ 1). with_one n stored share few one) once
  where
    with_none : (n stored share : ℕ) → stored ≤ share + n → 0 + n ≡ 0 → stored ≤ share + 1
    with_none n stored share few none = omega arith

    with_one : (n stored share : ℕ) → stored ≤ share + n → 0 + n ≡ 1 → stored ≤ share + 1
    with_one n stored share few one = omega arith

all_below : (machines : ℕ) (failed : List Attempt) (last : Attempt) → AllByRecursion (λ (a : Attempt). AllByRecursion (IsByMachineBelow machines) a.made) failed → AllByRecursion (IsByMachineBelow machines) last.made →
    AllByRecursion (IsByMachineBelow machines) (made_in failed last)
all_below machines [] last before its = its
all_below machines (a ∷ failed) last before its = each-append (IsByMachineBelow machines) a.made (made_in failed last) before.0 (all_below machines failed last before.1 its)

plus_none : (n : ℕ) → n ≡ n + 0
plus_none n = omega arith

not_less : (n : ℕ) → n < n → ⊥
not_less n is = omega arith

restart_alone : (b : Bool) (f : ℕ) → AllByRecursion (λ entry. is_restart entry ≡ true) (if b then Restart f ∷ [] else [])
restart_alone true f = (refl, tt)
restart_alone false f = tt

module _ (st : Setting) (failures : List FailureAt) (kept : List Entry) (resumed : Bool) (base : BaseView) (first : Cluster) (events : List Event) (c : Cluster)
    (trace : IsTraceOfCall st failures kept resumed base first events c) where
  abbrev now : Setting
  now = going_on st base.numbers base.number

  abbrev begun : Cluster
  begun = recovers st base first

  opening : IsEnding failures (opened_at kept resumed) kept base.number (ticket_above kept + first.left) now begun [] [] [] 0
  opening =
      let followed = (start_followed st trace.is trace.coloured base first [] begun refl).followed in
      record {
        at = opened_in st failures kept resumed base first trace.opened trace.is trace.coloured;
        watch = followed.1;
        watched = followed.2;
        late = recovered_late failures st now base first;
        once = inl refl;
        earlier = [];
        taken_are = refl;
        numbered = plus_none base.number;
        orders = tt;
        resumes = (if resumed then Restart (ticket_above kept) ∷ [] else [], refl, restart_alone resumed (ticket_above kept));
        behind = inl refl;
        reason = λ under. absurd (not_less base.number under);
        own = begins_own st now base first;
        made_below = tt;
        tickets = ap (λ (n : ℕ). n + first.left) trace.opened.next;
      }

  abbrev last : Setting
  last = setting_behind now events

  ended : EndsBehind failures (opened_at kept resumed) kept base.number (ticket_above kept + first.left) (since st last.start last.base) c (recorded_in now begun events) (0 + unasked_in now begun events) [] (AreLostIn now begun events) (GoOnFrom (opened_at kept resumed) now begun events [])
  ended =
      subst (λ (s : Setting). EndsBehind failures (opened_at kept resumed) kept base.number (ticket_above kept + first.left) s c (recorded_in now begun events) (0 + unasked_in now begun events) [] (AreLostIn now begun events) (GoOnFrom (opened_at kept resumed) now begun events [])) (behind_since events now)
      (traces_end failures (opened_at kept resumed) kept base.number (ticket_above kept + first.left) events now begun c [] [] [] 0 opening trace.trace trace.follows)

  saved_then : (start : GraphState) (number : ℕ) → HasSavedTheEnd st c.coordinator → HasSavedTheEnd (since st start number) c.coordinator
  saved_then start number is =
      record { end = is.end; none = is.none; all = λ (due : SnapshotIsDue (since st start number) c.coordinator). is.all (record { stored = due.stored; none = due.none; wanted = due.wanted }) }

  due_then : (start : GraphState) (number : ℕ) → RecordIsDue st c.coordinator → RecordIsDue (since st start number) c.coordinator
  due_then start number is = record { under = is.under; sections = is.sections }

  none_then : (start : GraphState) (number : ℕ) → AsksForNone st c → AsksForNone (since st start number) c
  none_then start number is =
      record {
        stored = is.stored;
        half = is.half;
        quiet = is.quiet;
        settled = record {
          none = is.settled.none;
          due = λ (due : SnapshotIsDue (since st start number) c.coordinator). is.settled.due (record { stored = due.stored; none = due.none; wanted = due.wanted });
        };
      }

  room_then : (start : GraphState) (number : ℕ) → (HasStoreRoom st c.coordinator → ⊥) → HasStoreRoom (since st start number) c.coordinator → ⊥
  room_then start number refused room = refused (record { few = room.few; short = room.short })

  once_or : (st' : Setting) (logged : List Logged) (n : ℕ) → (n ≡ 0) ⊎ ((n ≡ 1) × HasAskedAll failures st' c logged) → (n ≡ 0) ⊎ (n ≡ 1)
  once_or st' logged n once = ⊎_elim (λ (none : n ≡ 0). inl none) (λ (one : (n ≡ 1) × HasAskedAll failures st' c logged). inr one.0) once

  pub the_call : (one : EngineCall)
      × IsCallOf st failures kept resumed c one
      × (st.stored ≡ true → KeepsWindows st failures one)
      × AreSnapshotsOf st base.number kept (recorded_in (going_on st base.numbers base.number) (recovers st base first) events) (snapshots_of one)
      × (0 < half_window st → length (snapshots_of one) + under_way c ≤ first.left / half_window st + 1)
      × CallReport st first.left c one
      × ((lost : List Entry) → AreLostIn (going_on st base.numbers base.number) (recovers st base first) events lost → lost_of one ≡ lost)
      × AreNextOrders st kept (fronts_in (going_on st base.numbers base.number) (recovers st base first) events)
      (recorded_in (going_on st base.numbers base.number) (recovers st base first) events) (snapshots_of one)
      × AllByRecursion (IsByMachineBelow st.machines) (made_of one)
      × (((a : ℕ) → a < st.machines → has_reached failures c a ≡ false) → one.last.struck ≡ 0)
  the_call =
      let last_st : Setting = since st last.start last.base in
      let logged : List Logged = ended.0 in
      let failed : List Attempt = ended.1 in
      let taken : List Snapshot = recorded_in now begun events in
      let unasked : ℕ = 0 + unasked_in now begun events in
      let e : IsEnding failures (opened_at kept resumed) kept base.number (ticket_above kept + first.left) last_st c logged failed taken unasked = ended.2 in
      let one : EngineCall = call_with failures kept resumed c logged failed in
      let in_turn = trace.opened.in_turn in
      let begins = trace.opened.begins in
      let are : AreSnapshotsOf st base.number kept taken (snapshots_of one) = orders_are failures kept resumed base.number first.left last_st c logged failed taken unasked e in_turn begins in
      let call_so : IsCallOf st failures kept resumed c one = call_then st last.start last.base failures kept resumed c one (call_of failures kept resumed last_st c logged failed e.at in_turn begins) in
      let told : CallReport last_st first.left c one = tells failures kept resumed base.number first.left last_st c logged failed taken unasked e in_turn begins in (
        one,
        call_so,
        λ stored. windows_then st last.start last.base failures one (windows_are failures kept resumed last_st c logged failed e.at in_turn begins stored),
        are,
        λ half.
            subst (λ (n : ℕ). n + under_way c ≤ first.left / half_window st + 1) (sym (snapshots_long st base.number kept taken (snapshots_of one) are ∙ recorded_many events now begun))
            (one_at_most (unasked_in now begun events) (snapshots_in_all events + under_way c) (first.left / half_window st)
            (by_half (half_window st) (snapshots_in_all events + under_way c) (unasked_in now begun events) first.left half (attempts_few st trace.is trace.coloured base first events c trace.trace))
            (once_or last_st logged unasked e.once)),
        record { tasks = told.tasks; unharmed = told.unharmed; told = told.told; some = λ stored is. told.some stored (saved_then last.start last.base is); saved = λ stored is. told.saved stored (saved_then last.start last.base is); pending = λ due. let p = told.pending (due_then last.start last.base due) in (p.0, p.1, p.2, p.3, record { updates = p.4.updates; some_vertex = p.4.some_vertex; some_edge = p.4.some_edge; vertices = p.4.vertices; edges = p.4.edges }); full = λ due refused. told.full (due_then last.start last.base due) (room_then last.start last.base refused); many = told.many; unasked = λ none. told.unasked (none_then last.start last.base none); spent = told.spent },
        ended.3,
        next_orders (shared_of st failures) st base.number kept (fronts_in now begun events) taken (snapshots_of one) are
            (all_fronted failures (opened_at kept resumed) kept base.number (ticket_above kept + first.left) last_st c logged failed taken unasked e (fronts_in now begun events)
            (ended.4 (fronts_in now begun events) ([], ([], refl, tt), refl)))
            (all_in_turn (shared_of st failures) one call_so.is),
        all_below st.machines failed one.last e.made_below call_so.machines,
        unreached_struck failures kept resumed base.number first.left last_st c logged failed taken unasked e in_turn begins,
      )

  -- where a recovery may go back to
  pub the_return : 0 < failures_in st c → ((a : ℕ) → a < st.machines → has_reached failures c a ≡ true → (c.machine a).failed ≡ true) → (orders : List (List Entry)) (missing : List Entry) →
      AreNextOrders st kept (fronts_in (going_on st base.numbers base.number) (recovers st base first) events) (recorded_in (going_on st base.numbers base.number) (recovers st base first) events) orders →
      filter is_restart (last_order kept orders) ++ missing ≡ filter is_restart c.base.order ++ restarts (failures_in st c) c.next →
      (to : BaseView) × (to.number ≡ c.coordinator.acknowledged) × (to.number ≡ base.number + length (recorded_in (going_on st base.numbers base.number) (recovers st base first) events)) × (to.order ≡ last_order kept orders ++ missing)
      × HaveSameNumbers st.graph to.numbers (replay st.graph st.program to.order) × GoesBackTo (setting_behind now events) c to
  unfolding the_call
  the_return some all orders missing are lacks =
      let last_st : Setting = since st last.start last.base in
      let e : IsEnding failures (opened_at kept resumed) kept base.number (ticket_above kept + first.left) last_st c ended.0 ended.1 (recorded_in now begun events) (0 + unasked_in now begun events) = ended.2 in
      let snapshots : List (List Entry) = snapshots_of (call_with failures kept resumed c ended.0 ended.1) in
      let same : orders ≡ snapshots = next_once st kept (fronts_in now begun events) (recorded_in now begun events) orders snapshots are the_call.7 in
      let back = may_return failures kept resumed base.number first.left last_st c ended.0 ended.1 (recorded_in now begun events) (0 + unasked_in now begun events) e some all missing
      (ap (λ (os : List (List Entry)). filter is_restart (last_order kept os) ++ missing) (sym same) ∙ lacks) in (
        back.0,
        back.1,
        back.2,
        back.3 ∙ ap (λ (os : List (List Entry)). last_order kept os ++ missing) (sym same),
        back.4,
        subst (λ (s : Setting). GoesBackTo s c back.0) (sym (behind_since events now)) back.5,
      )

  -- what a recovery takes away
  pub the_losses : (to : BaseView) (merged : List Entry) → GoesBackTo (setting_behind now events) c to → IsMerge (all_logged (machine_logs st.machines c)) merged →
      TakesAway (setting_behind now events) c to (filter (is_lacking to.order) merged)
  the_losses to merged back merges =
      let last_st : Setting = since st last.start last.base in
      let at : IsInCall failures (opened_at kept resumed) last_st c ended.0 ended.1 = ended.2.at in
      subst (λ (s : Setting). TakesAway s c to (filter (is_lacking to.order) merged)) (sym (behind_since events now))
      (lacking_taken last_st at.is c at.whole ended.0 at.account at.based failures (begins_behind (opened_at kept resumed) ended.1) at.so.tickets to
      (subst (λ (s : Setting). GoesBackTo s c to) (behind_since events now) back) merged merges)
