-- A store stays so short that all may go back.
use Rattle.std.proofs.Common.{◌≡◌, ◌∙◌, ℕ, zero, suc, ◌+◌, ◌*◌, ◌-◌, ◌/◌, ◌<◌, ◌≤◌, ◌^◌, Bool, true, false, List, [], ◌∷◌, ◌++◌, Ok, Err, Result, ap, arith, filter, if◌then◌else◌, length, length-append, refl, subst, sym}
use Rattle.std.specs.Prelude.{nat_le}
use Rattle.std.specs.Result.{result_unwrap_or}
use Rattle.std.proofs.lemmas.List.Elements.{filter-append}
use Rattle.gl_base.specs.declared.entries.Entry.{Entry}
use Rattle.gl_base.specs.declared.jobs.FailureAt.{FailureAt}
use Rattle.call_laws.proofs.attempts.Failing.{call_restarts}
use Rattle.call_laws.specs.attempts.Accounted.{AreRestarts}
use Rattle.call_laws.specs.attempts.Entries.{is_restart}
use Rattle.call_laws.specs.attempts.EngineCalls.{EngineCall, done_of, fired_of, struck_in}
use Rattle.cluster_step.specs.trace.Traces.{CallOpening, Cluster, TraceView, Machine, Setting}
use Rattle.cluster_laws.specs.cluster_model.Clusters.{BaseView}
use Rattle.cluster_laws.specs.cluster_model.Events.{Event, failures_in}
use Rattle.cluster_laws.specs.cluster_model.Totals.{total_from}
use Rattle.cluster_laws.specs.cluster_runs.Recorded.{shared_of}
use Rattle.recovery.specs.Journals.{body_entries, order_behind, records_size, stored_in, with_entries}
use Rattle.store.proofs.snap_journal.CountLemmas.{entries_by_length, with_long}
use Rattle.store.specs.store_format.Bodies.{body_size}
use Rattle.store.specs.store_format.Stores.{read_store}
use Rattle.store.specs.declared.store_format.faults.StoreFault.{StoreFault}
use Rattle.store.specs.declared.store_format.header.Header.{Header}
use Rattle.engine_runs.specs.stores.Stores.{IsKnownTrace, stored_order}
use Rattle.call_laws.proofs.whole_calls.Calling.{the_call}
use Rattle.call_laws.specs.whole_calls.Called.{IsCallOf}
use Rattle.call_laws.specs.whole_calls.Opened.{IsTraceOfCall}

-- ---- how many there are

filter_few : {X : Type 0} (test : X → Bool) (xs : List X) → length (filter test xs) ≤ length xs
filter_few test [] = omega arith
filter_few {X} test (x ∷ xs) = either (test x) (filter_few test xs)
  where
    either : (keeps : Bool) → length (filter test xs) ≤ length xs → length (if keeps then x ∷ filter test xs else filter test xs) ≤ suc (length xs)
    either true few = omega arith
    either false few = omega arith

-- each machine fails once at most
flags_few : (test : ℕ → Bool) (k many : ℕ) → total_from k many (λ a. if test a then 1 else 0) ≤ many
unfolding total_from
flags_few test k zero = omega arith
flags_few test k (suc many) = either (test k) (total_from (suc k) many (λ a. if test a then 1 else 0)) (flags_few test (suc k) many)
  where
    either : (failed : Bool) (rest : ℕ) → rest ≤ many → (if failed then 1 else 0) + rest ≤ suc many
    either true rest few = omega arith
    either false rest few = omega arith

pub failures_few : (st : Setting) (c : Cluster) → failures_in st c ≤ st.machines
failures_few st c = flags_few (λ a. (c.machine a).failed) 0 st.machines

-- ---- the restarts of an attempt

all_few : (front made base new fired struck_before struck failures first : ℕ) → front + made ≡ base + new → new ≡ first + struck_before → fired ≡ struck_before + struck → fired ≤ failures → first ≤ 1 → front ≤ base + 1 + failures
all_few front made base new fired struck_before struck failures first parts many all few one = omega arith

module _ (st : Setting) (failures : List FailureAt) (kept : List Entry) (resumed : Bool) (base : BaseView) (first : Cluster) (events : List Event) (c : Cluster) (trace : IsTraceOfCall st failures kept resumed base first events c) where
  abbrev call : EngineCall
  call = (the_call st failures kept resumed base first events c trace).0

  its : IsCallOf st failures kept resumed c call
  its = (the_call st failures kept resumed base first events c trace).1

  are : AreRestarts (shared_of st failures) call
  are = call_restarts (shared_of st failures) call its.is

  one_at_most : (yes : Bool) → (if yes then 1 else 0) ≤ 1
  one_at_most true = omega arith
  one_at_most false = omega arith

  -- one where the call resumes, and one for each failure
  pub restarts_few : length (filter is_restart c.base.order) ≤ length (filter is_restart kept) + 1 + length failures
  restarts_few =
      all_few (length (filter is_restart c.base.order)) (length (filter is_restart call.last.made)) (length (filter is_restart kept)) (length are.new) (length (fired_of (shared_of st failures) call)) (struck_in call.failed) call.last.struck (length failures) (if call.resumed then 1 else 0)
      (sym (length-append (filter is_restart c.base.order) (filter is_restart call.last.made))
      ∙ ap (length {A = Entry}) (sym (filter-append is_restart c.base.order call.last.made) ∙ ap (λ (es : List Entry). filter is_restart (es ++ call.last.made)) its.front ∙ are.behind ∙ ap (λ (es : List Entry). filter is_restart es ++ are.new) its.base)
      ∙ length-append (filter is_restart kept) are.new)
      are.many are.fired (filter_few (λ (failure : FailureAt). nat_le failure.after (done_of call failure.machine.0)) failures) (one_at_most call.resumed)

-- ---- the entries of a store

grows : (bodies : List (List ℕ)) (order : List Entry) → length order ≤ length (order_behind order bodies)
grows [] order = omega arith
grows (body ∷ bodies) order = more (length order) (length (body_entries body)) (length (with_entries order (body_entries body))) (length (order_behind (with_entries order (body_entries body)) bodies)) (with_long (body_entries body) order) (grows bodies (with_entries order (body_entries body)))
  where
    more : (n k mid last : ℕ) → mid ≡ n + k → mid ≤ last → n ≤ last
    more n k mid last is low = omega arith

pub parted : (start added : List (List ℕ)) (order : List Entry) → order_behind order (start ++ added) ≡ order_behind (order_behind order start) added
parted [] added order = refl
parted (body ∷ start) added order = parted start added (with_entries order (body_entries body))

start_shorter : (start added : List (List ℕ)) → length (stored_order start) ≤ length (stored_order (start ++ added))
start_shorter start added = subst (λ (es : List Entry). length (stored_order start) ≤ length es) (sym (parted start added [])) (grows added (stored_order start))

sixteen_each : (size apart n : ℕ) → ((64 + size) - (64 + apart)) / 16 ≡ n → 16 * n ≤ size
sixteen_each size apart n is = omega arith

read_sized : (header : Header) (bytes : List ℕ) (read : Result (List (List ℕ)) StoreFault) → read_store header bytes ≡ read → 16 * length (stored_order (result_unwrap_or read [])) ≤ records_size (result_unwrap_or read [])
read_sized header bytes (Ok bodies) is =
    sixteen_each (records_size bodies) (length bodies * (9 + body_size header 0)) (length (stored_order bodies)) (entries_by_length header bodies bytes (length bodies) (64 + records_size bodies) is refl refl)
read_sized header bytes (Err fault) is = omega arith

stored_sized : (header : Header) (bytes : List ℕ) → 16 * length (stored_order (stored_in header bytes)) ≤ records_size (stored_in header bytes)
stored_sized header bytes = read_sized header bytes (read_store header bytes) refl

-- ---- where all go back

short_enough : (place stored size front kept failed failures machines long order whole : ℕ) → place + 16 * stored ≡ 65 + size + 16 * front → front ≤ kept + 1 + failures → kept ≤ order → order ≤ whole → 16 * whole ≤ size → long ≡ 65 + size → long ≤ 2 ^ 30 →
    failures ≤ 65536 → failed ≤ machines → machines < 65535 → 2 ^ 32 ≤ place + 16 * failed → ⊥
short_enough place stored size front kept failed failures machines long order whole at few low less sized is short failures_low failed_low machines_low over = omega arith

module _ {M : Type 0} (represents : Setting → ℕ → Machine → M → Type 0) (v : TraceView M) (header : Header) (start bodies : List (List ℕ)) (lost stored front order : List Entry) (st : Setting) (o : CallOpening)
    (k : IsKnownTrace represents v header start bodies lost stored front order st o) (bytes : List ℕ) (bodies_are : stored_in header bytes ≡ bodies) (failures_low : length v.failures ≤ 65536) (machines_low : st.machines < 65535)
    (long : ℕ) (long_is : long ≡ 65 + records_size bodies) (short : long ≤ 2 ^ 30) where
  pub never_far : 2 ^ 32 ≤ k.was.cluster.coordinator.store_end + 16 * failures_in st k.was.cluster → ⊥
  never_far =
      short_enough k.was.cluster.coordinator.store_end (length stored) (records_size bodies) (length front) (length (filter is_restart o.kept)) (failures_in st k.was.cluster) (length v.failures) st.machines long (length (stored_order start)) (length (stored_order bodies))
      k.place
      (subst (λ (es : List Entry). length es ≤ length (filter is_restart o.kept) + 1 + length v.failures) (sym (k.front_are ∙ ap (filter is_restart) (sym k.base)))
      (restarts_few st v.failures o.kept o.resumed o.base o.first k.was.events k.was.cluster k.was.now.trace))
      (subst (λ (es : List Entry). length (filter is_restart o.kept) ≤ length es) k.kept (filter_few is_restart o.kept))
      (subst (λ (bs : List (List ℕ)). length (stored_order start) ≤ length (stored_order bs)) (sym k.was.keeps.stored) (start_shorter start k.was.keeps.added))
      (subst (λ (bs : List (List ℕ)). 16 * length (stored_order bs) ≤ records_size bs) bodies_are (stored_sized header bytes))
      long_is short failures_low (failures_few st k.was.cluster) machines_low
