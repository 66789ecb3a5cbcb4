-- The restarts of a store's last order begin those of the order that the newest attempt began with.
use Rattle.std.proofs.Common.{◌≡◌, ℕ, zero, suc, ◌++◌, ◌∙◌, Bool, List, [], ◌∷◌, append-nil, ap, ap₂, filter, length, refl, replicate, subst, sym}
use Rattle.std.proofs.lemmas.List.Elements.{filter-append}
use Rattle.gl_base.specs.declared.entries.Entry.{Entry}
use Rattle.gl_base.specs.declared.jobs.FailureAt.{FailureAt}
use Rattle.cluster_laws.specs.cluster_runs.Attempts.{Beginning}
use Rattle.call_laws.specs.attempts.EngineCalls.{EngineCall, IsEngineCall, last_beginning, opening}
use Rattle.call_laws.specs.attempts.Stores.{ResumesFrom, attempted_snapshots, last_order, snapshot_orders, snapshots_of}
use Rattle.call_laws.proofs.attempts.Opening.{last_begins, opening_begins}
use Rattle.call_laws.proofs.attempts.Prefixes.{last_order_append}
use Rattle.call_laws.proofs.attempts.Storing.{call_back}
use Rattle.cluster_laws.specs.cluster_core.Recovering.{going_on}
use Rattle.cluster_laws.specs.cluster_model.Clusters.{BaseView, Cluster}
use Rattle.cluster_laws.specs.cluster_model.Events.{Event, recovers}
use Rattle.cluster_laws.specs.cluster_model.Leading.{Snapshot}
use Rattle.cluster_laws.specs.cluster_runs.Attempts.{Attempt, Shared}
use Rattle.cluster_laws.specs.cluster_runs.Recorded.{shared_of}
use Rattle.recovery.proofs.Goodness.{last_behind}
use Rattle.recovery.specs.Journals.{order_behind, with_entries}
use Rattle.store.specs.declared.store_format.header.Header.{Header}
use Rattle.store.specs.store_format.StoredOrders.{body_entries}
use Rattle.recovery.specs.records.Keeping.{AreNextOrders, KeepsUp, fronts_in, orders_behind, recorded_in, stored_order}
use Rattle.call_laws.proofs.whole_calls.Calling.{the_call}
use Rattle.call_laws.proofs.whole_calls.Fronting.{HaveRestartsOf, attempt_restarts, next_once}
use Rattle.call_laws.specs.whole_calls.Called.{IsCallOf}
use Rattle.call_laws.specs.whole_calls.Opened.{IsTraceOfCall}
use Rattle.recovery.specs.restarts.Missing.{Begins, Setting, is_restart}

order_append : (order : List Entry) (xs ys : List (List ℕ)) → order_behind order (xs ++ ys) ≡ order_behind (order_behind order xs) ys
order_append order [] ys = refl
order_append order (x ∷ xs) ys = order_append (with_entries order (body_entries x)) xs ys

resumed_begins : (before order : List Entry) → ResumesFrom before order → Begins (filter is_restart before) (filter is_restart order)
resumed_begins before order back = (filter is_restart back.0, ap (filter is_restart) back.1 ∙ filter-append is_restart before back.0)

-- where each of these orders has the front's restarts, the last one's begin them
last_restarts : (before : List Entry) (orders : List (List Entry)) (front : List Entry) (many : ℕ) → HaveRestartsOf (replicate many front) orders → Begins (filter is_restart before) (filter is_restart front) →
    Begins (filter is_restart (last_order before orders)) (filter is_restart front)
last_restarts before [] front many have begins = begins
last_restarts before (order ∷ orders) front zero have begins = absurd have
last_restarts before (order ∷ orders) front (suc many) have begins = last_restarts order orders front many have.1 ([], sym have.0 ∙ sym (append-nil (filter is_restart order)))

call_begins : (shared : Shared) (call : EngineCall) → IsEngineCall shared call → Begins (filter is_restart (last_order call.base (snapshots_of call))) (filter is_restart (last_beginning call).front)
call_begins shared call is =
    let b : Beginning = last_beginning call in
    let a : Attempt = call.last in
    let early : List Entry = last_order call.base (attempted_snapshots (opening call) call.failed) in
    let attempt = last_begins shared (opening call) call.failed call.last (opening_begins shared call is) is.attempts in
    subst (λ (order : List Entry). Begins (filter is_restart order) (filter is_restart b.front)) (sym (last_order_append call.base (attempted_snapshots (opening call) call.failed) (snapshot_orders b a)))
    (last_restarts early (snapshot_orders b a) b.front (length a.kept) (attempt_restarts b a b.front refl attempt.1.tickets (length a.kept) a.kept refl)
    (resumed_begins early b.front (call_back shared call is)))

module _ (st : Setting) (failures : List FailureAt) (kept : List Entry) (resumed : Bool) (base : BaseView) (first : Cluster) (events : List Event) (c : Cluster)
    (trace : IsTraceOfCall st failures kept resumed base first events c) (header : Header) (start bodies : List (List ℕ)) (kept_is : kept ≡ stored_order start)
    (keeps : KeepsUp st failures header start (fronts_in (going_on st base.numbers base.number) (recovers st base first) events) (recorded_in (going_on st base.numbers base.number) (recovers st base first) events) bodies) where
  abbrev fronts : List (List Entry)
  fronts = fronts_in (going_on st base.numbers base.number) (recovers st base first) events

  abbrev taken : List Snapshot
  taken = recorded_in (going_on st base.numbers base.number) (recovers st base first) events

  abbrev law_call : EngineCall
  law_call = (the_call st failures kept resumed base first events c trace).0

  its : IsCallOf st failures kept resumed c law_call
  its = (the_call st failures kept resumed base first events c trace).1

  -- the store's orders are those of the call's snapshots
  orders_are : snapshots_of law_call ≡ orders_behind (stored_order start) keeps.added
  orders_are =
      next_once st kept fronts taken (snapshots_of law_call) (orders_behind (stored_order start) keeps.added) (the_call st failures kept resumed base first events c trace).7
      (subst (λ (order : List Entry). AreNextOrders st order fronts taken (orders_behind (stored_order start) keeps.added)) (sym kept_is) keeps.orders)

  last_is : stored_order bodies ≡ last_order law_call.base (snapshots_of law_call)
  last_is =
      ap stored_order keeps.stored ∙ order_append [] start keeps.added ∙ sym (last_behind (stored_order start) keeps.added)
      ∙ ap₂ last_order (sym kept_is ∙ sym its.base) (sym orders_are)

  pub come_first : Begins (filter is_restart (stored_order bodies)) (filter is_restart c.base.order)
  come_first =
      subst (λ (order : List Entry). Begins (filter is_restart order) (filter is_restart c.base.order)) (sym last_is)
      (subst (λ (front : List Entry). Begins (filter is_restart (last_order law_call.base (snapshots_of law_call))) (filter is_restart front)) (sym its.front)
      (call_begins (shared_of st failures) law_call its.is))
