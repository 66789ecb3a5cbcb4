-- A record that is due goes with a store that keeps up.
use Rattle.std.proofs.Common.{◌≡◌, ◌<◌, ℕ, suc, ◌+◌, ◌∙◌, Bool, true, false, List, [], ◌∷◌, ◌++◌, IsPermutation, cond, count_by, filter, length, refl, sym, ap, ap₂, subst, append_assoc, append-nil, arith}
use Rattle.std.specs.List.{AllByRecursion}
use Rattle.std.proofs.lemmas.List.{length-append}
use Rattle.std.proofs.lemmas.List.Elements.{filter-append}
use Rattle.std.proofs.lemmas.List.Sums.{sum_by-append}
use Rattle.gl_base.specs.declared.entries.Entry.{Entry}
use Rattle.gl_base.specs.declared.entries.Entry.TheVariants.{Go, Restart}
use Rattle.gl_base.specs.declared.jobs.FailureAt.{FailureAt}
use Rattle.gl_base.specs.declared.snapshots.Record.{Record}
use Rattle.graph_core.specs.DataGraph.{size}
use Rattle.call_laws.specs.attempts.Beginnings.{snapshot_order}
use Rattle.call_laws.specs.attempts.EngineCalls.{EngineCall, IsEngineCall, IsOrderInTurn, last_beginning, opening}
use Rattle.call_laws.proofs.attempts.Opening.{last_begins, opening_begins}
use Rattle.call_laws.specs.attempts.Entries.{is_restart, is_update}
use Rattle.call_laws.specs.attempts.Stores.{AreGoodOrders, last_order, snapshots_of}
use Rattle.call_laws.proofs.attempts.Standing.{all_back}
use Rattle.call_laws.proofs.attempts.Storing.{images_good, last_in_turn, pending_good}
use Rattle.cluster_laws.specs.cluster_core.Recovering.{going_on}
use Rattle.cluster_laws.specs.cluster_core.Settings.{Setting}
use Rattle.cluster_laws.specs.cluster_model.Clusters.{BaseView, Cluster}
use Rattle.cluster_laws.specs.cluster_model.ByTicket.{restarts}
use Rattle.cluster_laws.specs.cluster_model.Events.{Event, GoesBackTo, entries_below, failures_in, recovers}
use Rattle.cluster_laws.specs.cluster_model.Leading.{RecordIsDue, Snapshot}
use Rattle.whole_laws.specs.cluster_records.Recorded.{HaveSameNumbers, snapshot_due}
use Rattle.whole_laws.specs.cluster_whole.Whole.{setting_behind}
use Rattle.cluster_laws.specs.cluster_runs.Attempts.{Shared}
use Rattle.cluster_laws.specs.cluster_runs.Recorded.{shared_of}
use Rattle.cluster_laws.proofs.merged_logs.SameLemmas.{HaveSame, same_from}
use Rattle.recovery.specs.GoodStores.{stored_orders}
use Rattle.recovery.specs.Journals.{IsBeforeOrAfter, NumbersFit, RecordFits, body_bytes, order_behind, stored_in}
use Rattle.recovery.proofs.Goodness.{good_more, behind_record, last_behind, orders_more, records_good}
use Rattle.store.specs.declared.store_format.header.Header.{Header}
use Rattle.store.specs.store_format.StoredOrders.{body_entries}
use Rattle.store.proofs.store_format.ReadBackLemmas.{entries_of_record}
use Rattle.recovery.specs.records.Keeping.{AreNextOrders, GoesWith, IsGoodStore, IsNextOrder, IsRecordBehind, KeepsUp, fronts_in, orders_behind, recorded_in, stored_order, with_entries}
use Rattle.recovery.proofs.records.Saying.{edge_is, vertex_is}
use Rattle.recovery.proofs.records.Sorting.{put_is}
use Rattle.call_laws.specs.whole_calls.Opened.{IsTraceOfCall}
use Rattle.call_laws.specs.whole_calls.Saved.{IsSnapshotOf, MayFollow, SaysOnce}
use Rattle.call_laws.proofs.whole_calls.Calling.{the_call, the_return}
use Rattle.call_laws.proofs.whole_calls.Fronting.{attempt_restarts, filtered, next_once, without}
use Rattle.call_laws.specs.whole_calls.Called.{IsCallOf}
use Rattle.call_laws.specs.whole_calls.Following.{has_reached}
use Rattle.call_laws.specs.whole_calls.Opened.{IsTraceOfCall}
use Rattle.call_laws.specs.whole_calls.Saved.{IsSnapshotOf, MayFollow, SaysOnce}
use Rattle.seq_run.specs.Orders.{replay}

-- ---- stores

-- records behind others
orders_append : (order : List Entry) (xs ys : List (List ℕ)) → orders_behind order (xs ++ ys) ≡ orders_behind order xs ++ orders_behind (order_behind order xs) ys
orders_append order [] ys = refl
orders_append order (x ∷ xs) ys = ap (λ (os : List (List Entry)). with_entries order (body_entries x) ∷ os) (orders_append (with_entries order (body_entries x)) xs ys)

order_append : (order : List Entry) (xs ys : List (List ℕ)) → order_behind order (xs ++ ys) ≡ order_behind (order_behind order xs) ys
order_append order [] ys = refl
order_append order (x ∷ xs) ys = order_append (with_entries order (body_entries x)) xs ys

next_push : (st : Setting) (before : List Entry) (fronts : List (List Entry)) (taken : List Snapshot) (orders : List (List Entry)) (front : List Entry) (snapshot : Snapshot) (order : List Entry) →
    AreNextOrders st before fronts taken orders → IsNextOrder st front (last_order before orders) snapshot order → AreNextOrders st before (fronts ++ front ∷ []) (taken ++ snapshot ∷ []) (orders ++ order ∷ [])
next_push st before [] [] [] front snapshot order are is = (is, tt)
next_push st before [] [] (o ∷ os) front snapshot order are is = absurd are
next_push st before [] (s ∷ ss) os front snapshot order are is = absurd are
next_push st before (f ∷ fs) [] os front snapshot order are is = absurd are
next_push st before (f ∷ fs) (s ∷ ss) [] front snapshot order are is = absurd are
next_push st before (f ∷ fs) (s ∷ ss) (o ∷ os) front snapshot order are is = (are.0, next_push st o fs ss os front snapshot order are.1 is)

counted : (p : Entry → Bool) (xs ys : List Entry) → count_by p (xs ++ ys) ≡ count_by p xs + count_by p ys
counted p xs ys = sum_by-append (λ (e : Entry). cond (p e) 1 0) xs ys

pub opens_up : (st : Setting) (failures : List FailureAt) (header : Header) (bodies : List (List ℕ)) → IsGoodStore (shared_of st failures) header bodies → KeepsUp st failures header bodies [] [] bodies
opens_up st failures header bodies good = record { added = []; stored = sym (append-nil bodies); orders = tt; good = good }

no_restarts : (es : List Entry) → AllByRecursion (λ entry. is_update entry ≡ true) es → filter is_restart es ≡ []
no_restarts [] all = refl
no_restarts (Go machine vertex ticket ∷ es) all = no_restarts es all.1
no_restarts (Restart ticket ∷ es) all = absurd (apart all.0)
  where
    apart : false ≡ true → ⊥
    apart is = cc

only_restarts : (es : List Entry) → AllByRecursion (λ entry. is_restart entry ≡ true) es → filter is_restart es ≡ es
only_restarts [] all = refl
only_restarts (Go machine vertex ticket ∷ es) all = absurd (apart all.0)
  where
    apart : false ≡ true → ⊥
    apart is = cc
only_restarts (Restart ticket ∷ es) all = ap (λ (rest : List Entry). Restart ticket ∷ rest) (only_restarts es all.1)

module _ (st : Setting) (failures : List FailureAt) (kept : List Entry) (resumed : Bool) (base : BaseView) (first : Cluster) (events : List Event) (c : Cluster)
    (trace : IsTraceOfCall st failures kept resumed base first events c) (header : Header) (start bodies : List (List ℕ)) (kept_is : kept ≡ stored_order start)
    (keeps : KeepsUp st failures header start (fronts_in (going_on st base.numbers base.number) (recovers st base first) events) (recorded_in (going_on st base.numbers base.number) (recovers st base first) events) bodies)
    (due : RecordIsDue st c.coordinator) (made : Record) (is : IsRecordBehind st (stored_order bodies) c.base.order (snapshot_due c.coordinator) made) where
  abbrev shared : Shared
  shared = shared_of st failures

  abbrev fronts : List (List Entry)
  fronts = fronts_in (going_on st base.numbers base.number) (recovers st base first) events

  abbrev taken : List Snapshot
  taken = recorded_in (going_on st base.numbers base.number) (recovers st base first) events

  abbrev snapshot : Snapshot
  snapshot = snapshot_due c.coordinator

  abbrev brought : List Entry
  brought = entries_below st.machines snapshot

  abbrev before : List Entry
  before = stored_order bodies

  abbrev law_call : EngineCall
  law_call = (the_call st failures kept resumed base first events c trace).0

  its : IsCallOf st failures kept resumed c law_call
  its = (the_call st failures kept resumed base first events c trace).1

  call_is : IsEngineCall shared law_call
  call_is = its.is

  pub pending : MayFollow st c.coordinator law_call
  pending = (the_call st failures kept resumed base first events c trace).5.pending due

  -- the store's orders are those of the call's snapshots
  orders_are : snapshots_of law_call ≡ orders_behind (stored_order start) keeps.added
  orders_are =
      next_once st kept fronts taken (snapshots_of law_call) (orders_behind (stored_order start) keeps.added) (the_call st failures kept resumed base first events c trace).7
      (subst (λ (order : List Entry). AreNextOrders st order fronts taken (orders_behind (stored_order start) keeps.added)) (sym kept_is) keeps.orders)

  store_is : stored_orders bodies ≡ stored_orders start ++ snapshots_of law_call
  store_is = ap stored_orders keeps.stored ∙ orders_append [] start keeps.added ∙ ap (λ (os : List (List Entry)). stored_orders start ++ os) (sym orders_are)

  before_is : before ≡ last_order law_call.base (snapshots_of law_call)
  before_is =
      ap stored_order keeps.stored ∙ order_append [] start keeps.added ∙ sym (last_behind (stored_order start) keeps.added)
      ∙ ap₂ last_order (sym kept_is ∙ sym its.base) (sym orders_are)

  base_is : law_call.base ≡ last_order [] (stored_orders start)
  base_is = its.base ∙ kept_is ∙ sym (last_behind [] start)

  start_good : AreGoodOrders shared (stored_orders start)
  start_good =
      images_good shared (stored_orders start) (snapshots_of law_call) (stored_orders start) (subst (AreGoodOrders shared) store_is keeps.good.orders) ([], snapshots_of law_call, refl, sym (append-nil (stored_orders start)))

  abbrev order : List Entry
  order = snapshot_order (last_beginning law_call) law_call.last pending.0

  with_order : AreGoodOrders shared (stored_orders start ++ (snapshots_of law_call ++ order ∷ []))
  with_order = pending_good shared (stored_orders start) law_call pending.0 start_good base_is call_is pending.1 pending.2

  order_in_turn : IsOrderInTurn shared order
  order_in_turn = (all_back (IsOrderInTurn shared) (snapshots_of law_call) (order ∷ []) (all_back (IsOrderInTurn shared) (stored_orders start) (snapshots_of law_call ++ order ∷ []) with_order.in_turn)).0

  before_in_turn : IsOrderInTurn shared before
  before_in_turn = subst (IsOrderInTurn shared) (last_behind [] bodies) (last_in_turn shared (stored_orders bodies) keeps.good.orders)

  -- it has the restarts that its attempt began with
  order_restarts : filter is_restart order ≡ filter is_restart c.base.order
  order_restarts =
      let attempt = last_begins shared (opening law_call) law_call.failed law_call.last (opening_begins shared law_call call_is) call_is.attempts in
      (attempt_restarts (last_beginning law_call) law_call.last c.base.order its.front attempt.1.tickets 1 (pending.0 ∷ []) refl).0

  has_same : HaveSame (before ++ made.entries.items) order
  has_same p =
      let law : IsSnapshotOf st c.coordinator.begun (last_order law_call.base (snapshots_of law_call)) order snapshot = pending.3 in
      let more : List Entry = law.2 in
      let one : IsPermutation (before ++ (more ++ brought)) order = subst (λ (os : List Entry). IsPermutation (os ++ (more ++ brought)) order) (sym before_is) law.4 in
      let says : SaysOnce st snapshot = pending.4 in
      let restarts_of : List Entry → ℕ = λ es. count_by p (filter is_restart es) in
      sums (count_by p before) (count_by p is.missing) (count_by p brought) (count_by p more) (restarts_of before)
      (counted p before made.entries.items ∙ ap (λ (n : ℕ). count_by p before + n) (sym (same_from (is.missing ++ brought) made.entries.items is.entries p) ∙ counted p is.missing brought))
      (sym (same_from (before ++ (more ++ brought)) order one p) ∙ counted p before (more ++ brought) ∙ ap (λ (n : ℕ). count_by p before + n) (counted p more brought))
      (sym (counted p (filter is_restart before) is.missing) ∙ ap (count_by p) (is.lacks ∙ sym order_restarts))
      (sym (same_from (filter is_restart (before ++ (more ++ brought))) (filter is_restart order) (filtered is_restart (before ++ (more ++ brought)) order one) p)
      ∙ ap (count_by p) (filter-append is_restart before (more ++ brought)
      ∙ ap (λ (es : List Entry). filter is_restart before ++ es) (filter-append is_restart more brought ∙ ap₂ (λ (xs ys : List Entry). xs ++ ys) (only_restarts more law.3) (no_restarts brought says.updates) ∙ append-nil more))
      ∙ counted p (filter is_restart before) more)
    where
      sums : {w v r : ℕ} (b m e o f : ℕ) → w ≡ b + (m + e) → v ≡ b + (o + e) → f + m ≡ r → r ≡ f + o → w ≡ v
      sums b m e o f one two three four = omega arith

  pub put_order : with_entries before made.entries.items ≡ order
  put_order = put_is before made.entries.items order before_in_turn.high order_in_turn.high before_in_turn.by_ticket order_in_turn.by_ticket has_same

  pub goes_with : GoesWith shared bodies made
  goes_with =
      let says : SaysOnce st snapshot = pending.4 in
      let owner : (v : ℕ) → v < size st.graph → st.owner v < st.machines = λ v low. trace.is.owner v low in
      record {
        orders = subst (λ (os : List (List Entry)). AreGoodOrders shared os)
            (sym (append_assoc (stored_orders start) (snapshots_of law_call) (order ∷ [])) ∙ ap₂ (λ (os : List (List Entry)) (o : List Entry). os ++ o ∷ []) (sym store_is) (sym put_order)) with_order;
        vertex = λ v within. vertex_is st before c.base.order snapshot made is says owner v within ∙ pending.3.1.vertices v within ∙ ap (λ (es : List Entry). (replay st.graph st.program es).vertex v) (sym put_order);
        edge = λ e within. edge_is st before c.base.order snapshot made is says owner e within ∙ pending.3.1.edges e within ∙ ap (λ (es : List Entry). (replay st.graph st.program es).edge e) (sym put_order);
      }

  pub next_is : IsNextOrder st c.base.order before snapshot (with_entries before made.entries.items)
  next_is =
      let law : IsSnapshotOf st c.coordinator.begun (last_order law_call.base (snapshots_of law_call)) order snapshot = pending.3 in
      subst (IsNextOrder st c.base.order before snapshot) (sym put_order)
      (record {
        high = order_in_turn.high;
        by_ticket = order_in_turn.by_ticket;
        restarts = order_restarts;
        updates = subst (λ (es : List Entry). IsPermutation es (filter is_update order)) (without before law.2 brought law.3)
            (filtered is_update (before ++ (law.2 ++ brought)) order (subst (λ (os : List Entry). IsPermutation (os ++ (law.2 ++ brought)) order) (sym before_is) law.4));
      })

  module _ (small : RecordFits made) (fits : NumbersFit made) (machines : length made.sections.items ≡ header.machines) where
    pub grows_up : KeepsUp st failures header start (fronts ++ c.base.order ∷ []) (taken ++ snapshot ∷ []) (bodies ++ body_bytes made ∷ [])
    grows_up =
        let added : List (List ℕ) = keeps.added in
        let read : body_entries (body_bytes made) ≡ made.entries.items = entries_of_record made small fits in
        let there : order_behind (stored_order start) added ≡ before = sym (order_append [] start added) ∙ ap stored_order (sym keeps.stored) in
        let newest : last_order (stored_order start) (orders_behind (stored_order start) added) ≡ before = last_behind (stored_order start) added ∙ there in
        record {
          added = added ++ body_bytes made ∷ [];
          stored = ap (λ (bs : List (List ℕ)). bs ++ body_bytes made ∷ []) keeps.stored ∙ append_assoc start added (body_bytes made ∷ []);
          orders = subst (AreNextOrders st (stored_order start) (fronts ++ c.base.order ∷ []) (taken ++ snapshot ∷ []))
              (sym (orders_more (stored_order start) added (body_bytes made) ∙ ap₂ (λ (o es : List Entry). orders_behind (stored_order start) added ++ with_entries o es ∷ []) there read))
              (next_push st (stored_order start) fronts taken (orders_behind (stored_order start) added) c.base.order snapshot (with_entries before made.entries.items) keeps.orders
              (subst (λ (o : List Entry). IsNextOrder st c.base.order o snapshot (with_entries before made.entries.items)) (sym newest) next_is));
          good = good_more shared header bodies (body_bytes made) keeps.good (behind_record shared header bodies made small fits machines goes_with);
        }

    pub image_good : (image : List ℕ) → IsBeforeOrAfter header bodies (body_bytes made) image → IsGoodStore shared header (stored_in header image)
    image_good image either = records_good shared header bodies made image keeps.good small fits machines goes_with either

-- ---- recoveries

next_long : (st : Setting) (before : List Entry) (fronts : List (List Entry)) (taken : List Snapshot) (orders : List (List Entry)) → AreNextOrders st before fronts taken orders → length orders ≡ length taken
next_long st before [] [] [] are = refl
next_long st before [] [] (o ∷ os) are = absurd are
next_long st before [] (s ∷ ss) os are = absurd are
next_long st before (f ∷ fs) [] os are = absurd are
next_long st before (f ∷ fs) (s ∷ ss) [] are = absurd are
next_long st before (f ∷ fs) (s ∷ ss) (o ∷ os) are = ap suc (next_long st o fs ss os are.1)

orders_long : (order : List Entry) (bodies : List (List ℕ)) → length (orders_behind order bodies) ≡ length bodies
orders_long order [] = refl
orders_long order (body ∷ bodies) = ap suc (orders_long (with_entries order (body_entries body)) bodies)

module _ (st : Setting) (failures : List FailureAt) (kept : List Entry) (resumed : Bool) (base : BaseView) (first : Cluster) (events : List Event) (c : Cluster)
    (trace : IsTraceOfCall st failures kept resumed base first events c) (header : Header) (start bodies : List (List ℕ)) (kept_is : kept ≡ stored_order start) (number : base.number ≡ length start)
    (keeps : KeepsUp st failures header start (fronts_in (going_on st base.numbers base.number) (recovers st base first) events) (recorded_in (going_on st base.numbers base.number) (recovers st base first) events) bodies)
    (some : 0 < failures_in st c) (all : (a : ℕ) → a < st.machines → has_reached failures c a ≡ true → (c.machine a).failed ≡ true) where
  pub comes_from : (missing : List Entry) → filter is_restart (stored_order bodies) ++ missing ≡ filter is_restart c.base.order ++ restarts (failures_in st c) c.next →
      (to : BaseView) × (to.number ≡ length bodies) × (to.order ≡ stored_order bodies ++ missing)
      × HaveSameNumbers st.graph to.numbers (replay st.graph st.program to.order)
      × GoesBackTo (setting_behind (going_on st base.numbers base.number) events) c to
  comes_from missing lacks =
      let orders : List (List Entry) = orders_behind (stored_order start) keeps.added in
      let fronts : List (List Entry) = fronts_in (going_on st base.numbers base.number) (recovers st base first) events in
      let taken : List Snapshot = recorded_in (going_on st base.numbers base.number) (recovers st base first) events in
      let last : last_order kept orders ≡ stored_order bodies =
      ap (λ (os : List Entry). last_order os orders) kept_is ∙ last_behind (stored_order start) keeps.added ∙ sym (order_append [] start keeps.added) ∙ ap stored_order (sym keeps.stored) in
      let back = the_return st failures kept resumed base first events c trace some all orders missing (subst (λ (os : List Entry). AreNextOrders st os fronts taken orders) (sym kept_is) keeps.orders)
      (ap (λ (os : List Entry). filter is_restart os ++ missing) last ∙ lacks) in (
        back.0,
        back.2
            ∙ ap₂ (λ (n k : ℕ). n + k) number (sym (next_long st (stored_order start) fronts taken orders keeps.orders) ∙ orders_long (stored_order start) keeps.added)
            ∙ sym (ap (λ (bs : List (List ℕ)). length bs) keeps.stored ∙ length-append start keeps.added),
        back.3 ∙ ap (λ (os : List Entry). os ++ missing) last,
        back.4,
        back.5,
      )
