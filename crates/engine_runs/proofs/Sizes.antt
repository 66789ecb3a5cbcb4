-- How long a store is with the snapshots of a call, and that it has room for one more.
use Rattle.std.proofs.Common.{◌≡◌, ◌∙◌, ℕ, zero, suc, ◌+◌, ◌*◌, ◌/◌, ◌<◌, ◌≤◌, ◌==◌, Bool, true, false, List, [], ◌∷◌, ◌++◌, Ok, Err, None, Option, Some, Result, ap, ap₂, arith, drop, filter, if◌then◌else◌, inl, inr, nat_lt, length, length-append, length-drop, refl, subst, sym, take}
use Rattle.std.specs.Prelude.{⊤}
use Rattle.std.specs.Result.{result_unwrap_or}
use Rattle.std.proofs.lemmas.Bool.{cond-true, lt-ltb}
use Rattle.std.proofs.Math.Nat.{mul-le-mul_right, suc-mul, zero-mul}
use Rattle.gl_base.specs.declared.entries.Entry.{Entry}
use Rattle.call_laws.specs.attempts.Beginnings.{unheld_updates}
use Rattle.call_laws.specs.attempts.EngineCalls.{EngineCall, call_order, last_beginning, made_of}
use Rattle.call_laws.specs.attempts.Entries.{is_restart}
use Rattle.call_laws.specs.attempts.Stores.{last_order, snapshots_of}
use Rattle.call_laws.proofs.call_budgets.Outside.{outside_few}
use Rattle.call_laws.proofs.call_budgets.Stretches.{order_few}
use Rattle.cluster_step.specs.trace.Calls.{MakesCall}
use Rattle.cluster_step.specs.trace.Traces.{CallOpening, TraceView, Machine, Setting, first_cluster, first_setting}
use Rattle.cluster_laws.specs.cluster_model.Working.{half_window}
use Rattle.cluster_laws.specs.cluster_runs.Recorded.{shared_of}
use Rattle.graph_core.specs.DataGraph.{size}
use Rattle.recovery.proofs.Goodness.{last_behind}
use Rattle.recovery.specs.GoodStores.{orders_behind}
use Rattle.recovery.specs.Journals.{body_entries, order_behind, records_size, stored_in, with_entries}
use Rattle.store.proofs.snap_journal.CountLemmas.{entries_long, with_long}
use Rattle.store.proofs.store_format.NewLemmas.{field-behind}
use Rattle.store.proofs.store_format.ReadLemmas.{split_record, with_body-inv}
use Rattle.store.specs.store_format.Bodies.{body_size, entry_count}
use Rattle.store.specs.store_format.Headers.{store_header_fault}
use Rattle.store.specs.store_format.Records.{bodies_from, body_in, length_in, stored_fault, unless_bad, with_body}
use Rattle.store.specs.store_format.Stores.{unless_refused}
use Rattle.store.specs.declared.store_format.faults.StoreFault.{StoreFault}
use Rattle.store.specs.declared.store_format.header.Header.{Header}
use Rattle.engine_runs.proofs.Bounds.{parted}
use Rattle.engine_runs.specs.stores.Stores.{IsKnownTrace, fronts_in, recorded_in, stored_order}
use Rattle.recovery.specs.records.Keeping.{AreNextOrders}
use Rattle.call_laws.proofs.whole_calls.Fronting.{next_once}
use Rattle.whole_laws.specs.cluster_records.Few.{under_way}
use Rattle.call_laws.specs.whole_calls.Telling.{LacksStoreRoom, NeedsMoreStore}

-- ---- bodies that were read

abbrev AreSized : Header → List (List ℕ) → Type 0
AreSized header [] = ⊤
AreSized header (body ∷ bodies) = (length body ≡ body_size header (entry_count body)) × AreSized header bodies

long_behind : (front : List ℕ) (n : ℕ) → length front ≡ 8 + n → length (drop 8 front) ≡ n
long_behind front n is = omega (arith, length-drop 8 front)

body_sized : (header : Header) (number at : ℕ) (behind : List ℕ) → stored_fault header number at behind ≡ None → length (body_in behind) ≡ body_size header (entry_count (body_in behind))
body_sized header number at behind none =
    let split = split_record header number at behind none in
    ap (length {A = ℕ}) split.body ∙ long_behind split.front (length_in split.front) split.stored.size ∙ split.stored.own
    ∙ ap (body_size header) (sym (field-behind 8 4 4 split.front) ∙ sym (ap entry_count split.body))

none_bad : (fault : Option StoreFault) (body : List ℕ) (more : Result (List (List ℕ)) StoreFault) (bodies : List (List ℕ)) → unless_bad fault body more ≡ Ok bodies → (fault ≡ None) × (with_body body more ≡ Ok bodies)
none_bad None body more bodies e = (refl, e)
none_bad (Some fault) body more bodies e = absurd (cc)

none_read : (bodies : List (List ℕ)) → ◌≡◌ {A = Result (List (List ℕ)) StoreFault} (Ok []) (Ok bodies) → [] ≡ bodies
none_read bodies is = cc

by_gate : (header : Header) (number at : ℕ) (behind : List ℕ) (rest : Result (List (List ℕ)) StoreFault) (bodies : List (List ℕ)) → ((others : List (List ℕ)) → rest ≡ Ok others → AreSized header others) → (opened : Bool) →
    (if opened then unless_bad (stored_fault header number (at + 1) behind) (body_in behind) rest else Ok []) ≡ Ok bodies → AreSized header bodies
by_gate header number at behind rest bodies sized false is = subst (AreSized header) (none_read bodies is) tt
by_gate header number at behind rest bodies sized true is =
    let parts = none_bad (stored_fault header number (at + 1) behind) (body_in behind) rest bodies is in
    let first = with_body-inv (body_in behind) rest bodies parts.1 in
    subst (AreSized header) (sym first.2) (body_sized header number (at + 1) behind parts.0, sized first.0 first.1)

bodies_sized : (header : Header) (number at skip : ℕ) (bytes : List ℕ) (bodies : List (List ℕ)) → bodies_from header number at skip bytes ≡ Ok bodies → AreSized header bodies
bodies_sized header number at zero [] bodies e = absurd (cc)
bodies_sized header number at (suc skip) [] bodies e = absurd (cc)
bodies_sized header number at zero (gate ∷ behind) bodies e =
    by_gate header number at behind (bodies_from header (number + 1) (at + 1) (8 + length_in behind) behind) bodies (λ rest is. bodies_sized header (number + 1) (at + 1) (8 + length_in behind) behind rest is) (gate == 1) e
bodies_sized header number at (suc skip) (byte ∷ bytes) bodies e = bodies_sized header number (at + 1) skip bytes bodies e

read_is_sized : (header : Header) (fault : Option StoreFault) (read : Result (List (List ℕ)) StoreFault) → ((bodies : List (List ℕ)) → read ≡ Ok bodies → AreSized header bodies) → AreSized header (result_unwrap_or (unless_refused fault read) [])
read_is_sized header (Some fault) read sized = tt
read_is_sized header None (Ok bodies) sized = sized bodies refl
read_is_sized header None (Err fault) sized = tt

all_sized : (header : Header) (bytes : List ℕ) → AreSized header (stored_in header bytes)
all_sized header bytes = read_is_sized header (store_header_fault header (take 64 bytes)) (bodies_from header 1 64 0 (drop 64 bytes)) (λ bodies is. bodies_sized header 1 64 0 (drop 64 bytes) bodies is)

sized_back : (header : Header) (front back : List (List ℕ)) → AreSized header (front ++ back) → AreSized header back
sized_back header [] back all = all
sized_back header (body ∷ front) back all = sized_back header front back all.1

-- ---- how long they are

-- how many entries these bodies have
abbrev counted : List (List ℕ) → ℕ
counted [] = 0
counted (body ∷ bodies) = entry_count body + counted bodies

none_more : (n : ℕ) → n ≡ n + 0
none_more n = omega arith

grouped : (x y z : ℕ) → (x + y) + z ≡ x + (y + z)
grouped x y z = omega arith

order_long : (bodies : List (List ℕ)) (order : List Entry) → length (order_behind order bodies) ≡ length order + counted bodies
order_long [] order = none_more (length order)
order_long (body ∷ bodies) order =
    order_long bodies (with_entries order (body_entries body))
    ∙ ap (λ (n : ℕ). n + counted bodies) (with_long (body_entries body) order ∙ ap (λ (n : ℕ). length order + n) (entries_long (entry_count body) body 8))
    ∙ grouped (length order) (entry_count body) (counted bodies)

summed : (apart n rest one more size : ℕ) → size ≡ apart + 16 * one → rest ≡ n * (9 + apart) + 16 * more → 9 + size + rest ≡ suc n * (9 + apart) + 16 * (one + more)
summed apart n rest one more size is so =
    let step : suc n * (9 + apart) ≡ n * (9 + apart) + (9 + apart) = suc-mul n (9 + apart) in
    omega arith

parts : (header : Header) (entries : ℕ) → body_size header entries ≡ body_size header 0 + 16 * entries
parts header entries = omega arith

records_long : (header : Header) (bodies : List (List ℕ)) → AreSized header bodies → records_size bodies ≡ length bodies * (9 + body_size header 0) + 16 * counted bodies
records_long header [] all = none_at_all (body_size header 0)
  where
    none_at_all : (apart : ℕ) → 0 ≡ 0 * (9 + apart) + 0
    none_at_all apart = let none : 0 * (9 + apart) ≡ 0 = zero-mul (9 + apart) in omega arith
records_long header (body ∷ bodies) all =
    summed (body_size header 0) (length bodies) (records_size bodies) (entry_count body) (counted bodies) (length body) (all.0 ∙ parts header (entry_count body)) (records_long header bodies all.1)

size_parted : (start added : List (List ℕ)) → records_size (start ++ added) ≡ records_size start + records_size added
size_parted [] added = from_none (records_size added)
  where
    from_none : (n : ℕ) → n ≡ 0 + n
    from_none n = omega arith
size_parted (body ∷ start) added = ap (λ (n : ℕ). 9 + length body + n) (size_parted start added) ∙ sym (grouped (9 + length body) (records_size start) (records_size added))

pub orders_many : (order : List Entry) (bodies : List (List ℕ)) → length (orders_behind order bodies) ≡ length bodies
orders_many order [] = refl
orders_many order (body ∷ bodies) = ap (λ (n : ℕ). suc n) (orders_many (with_entries order (body_entries body)) bodies)

-- ---- that there is room

not_many : (acknowledged bodies start added half : ℕ) → acknowledged ≡ bodies → bodies ≡ start + added → added ≤ half → start + (half + 1) ≤ 4096 → 4096 ≤ acknowledged → ⊥
not_many acknowledged bodies start added half is parted_is low few many = omega arith

not_long : (place stored whole front first grown each count newest kept unheld order base made failures budget all more : ℕ) →
    place + 16 * stored ≡ 65 + whole + 16 * front → whole ≡ first + grown → grown ≡ each + 16 * count → newest ≡ kept + count → newest + front + unheld ≤ order + stored → order ≤ base + 1 + made + failures → base ≡ kept → made ≤ budget →
    each + more ≤ all → 65 + first + 16 * (budget + failures + 1) + all ≤ 1073741824 → 1073741824 < place + (16 * unheld + more) → ⊥
not_long place stored whole front first grown each count newest kept unheld order base made failures budget all more at parted_is sized_is newest_is outside few base_is spent fits short over = omega arith

each_more : (added half apart : ℕ) → added ≤ half → added * apart + apart ≤ (half + 1) * apart
each_more added half apart low =
    let more : suc added * apart ≡ added * apart + apart = suc-mul added apart in
    let wider : suc added * apart ≤ (half + 1) * apart = mul-le-mul_right apart (next added half low) in
    omega (arith, more, wider)
  where
    next : (added half : ℕ) → added ≤ half → suc added ≤ half + 1
    next added half low = omega arith

lengths : (unheld ma n m : ℕ) → 8 + 16 * unheld + 8 * ma + 12 * n + 12 * m + 9 ≡ 16 * unheld + (17 + 8 * ma + 12 * n + 12 * m)
lengths unheld ma n m = omega arith

apart_is : (ma n m hm hn he : ℕ) → hm ≡ ma → hn ≡ n → he ≡ m → 9 + (8 + 16 * 0 + 8 * hm + 12 * hn + 12 * he) ≡ 17 + 8 * ma + 12 * n + 12 * m
apart_is ma n m hm hn he ma_is n_is m_is = omega arith

module _ {M : Type 0} (represents : Setting → ℕ → Machine → M → Type 0) (v : TraceView M) (header : Header) (start bodies : List (List ℕ)) (lost stored front order : List Entry) (st : Setting) (o : CallOpening)
    (k : IsKnownTrace represents v header start bodies lost stored front order st o) (bytes : List ℕ) (bodies_are : stored_in header bytes ≡ bodies) (call : EngineCall) (makes : MakesCall st v.failures o k.was.events k.was.cluster call)
    (some : 0 < half_window st) (few : length start + (o.first.left / half_window st + 1) ≤ 4096)
    (short : 65 + records_size start + 16 * (o.first.left + length v.failures + 1) + (o.first.left / half_window st + 1) * (17 + 8 * st.machines + 12 * size st.graph + 12 * length st.graph.edges) ≤ 1073741824) where
  abbrev added : List (List ℕ)
  added = k.was.keeps.added

  orders_are : snapshots_of call ≡ orders_behind (stored_order start) added
  orders_are =
      next_once st o.kept (fronts_in (first_setting st o) (first_cluster st o) k.was.events) (recorded_in (first_setting st o) (first_cluster st o) k.was.events) (snapshots_of call) (orders_behind (stored_order start) added) makes.orders
      (subst (λ (es : List Entry). AreNextOrders st es (fronts_in (first_setting st o) (first_cluster st o) k.was.events) (recorded_in (first_setting st o) (first_cluster st o) k.was.events) (orders_behind (stored_order start) added)) (sym k.kept) k.was.keeps.orders)

  newest_is : stored_order bodies ≡ last_order call.base (snapshots_of call)
  newest_is =
      ap stored_order k.was.keeps.stored ∙ parted start added [] ∙ sym (last_behind (stored_order start) added)
      ∙ ap₂ last_order (sym k.kept ∙ sym makes.is.base) (sym orders_are)

  -- with the one that is under way
  added_few : k.was.cluster.coordinator.acknowledged < k.was.cluster.coordinator.begun → length added ≤ o.first.left / half_window st
  added_few under =
      one_less (length added) (under_way k.was.cluster) (o.first.left / half_window st)
      (cond-true (nat_lt k.was.cluster.coordinator.acknowledged k.was.cluster.coordinator.begun) 1 0 (lt-ltb k.was.cluster.coordinator.acknowledged k.was.cluster.coordinator.begun under))
      (subst (λ (n : ℕ). n + under_way k.was.cluster ≤ o.first.left / half_window st + 1) (ap (length {A = List Entry}) orders_are ∙ orders_many (stored_order start) added) (makes.few some))
    where
      one_less : (added under half : ℕ) → under ≡ 1 → added + under ≤ half + 1 → added ≤ half
      one_less added under half is few = omega arith

  abbrev apart : ℕ
  apart = 17 + 8 * st.machines + 12 * size st.graph + 12 * length st.graph.edges

  apart_same : 9 + body_size header 0 ≡ apart
  apart_same = apart_is st.machines (size st.graph) (length st.graph.edges) header.machines header.n header.m k.fits.machines k.fits.n k.fits.m

  grown_is : records_size added ≡ length added * apart + 16 * counted added
  grown_is =
      records_long header added (sized_back header start added (subst (AreSized header) (bodies_are ∙ k.was.keeps.stored) (all_sized header bytes)))
      ∙ ap (λ (n : ℕ). length added * n + 16 * counted added) apart_same

  newest_long : length (stored_order bodies) ≡ length (stored_order start) + counted added
  newest_long = ap (λ (bs : List (List ℕ)). length (stored_order bs)) k.was.keeps.stored ∙ ap (length {A = Entry}) (parted start added []) ∙ order_long added (stored_order start)

  front_long : length (filter is_restart (last_beginning call).front) ≡ length front
  front_long = ap (λ (es : List Entry). length (filter is_restart es)) (sym makes.is.front ∙ k.base) ∙ ap (length {A = Entry}) (sym k.front_are)

  outside_low : length (stored_order bodies) + length front + length (unheld_updates call.last) ≤ length (call_order call) + length stored
  outside_low =
      rewritten (length (last_order call.base (snapshots_of call))) (length (stored_order bodies)) (length (filter is_restart (last_beginning call).front)) (length front) (length (unheld_updates call.last)) (length (call_order call))
      (length (filter is_restart (last_order call.base (snapshots_of call)))) (length stored) (ap (length {A = Entry}) newest_is) front_long
      (ap (length {A = Entry}) k.stored_are ∙ ap (λ (es : List Entry). length (filter is_restart es)) newest_is)
      (outside_few (shared_of st v.failures) call makes.is.is)
    where
      rewritten : (newest other front_r front unheld order newest_r stored : ℕ) → other ≡ newest → front_r ≡ front → stored ≡ newest_r → newest + front_r + unheld ≤ order + newest_r → other + front + unheld ≤ order + stored
      rewritten newest other front_r front unheld order newest_r stored one two three low = omega arith

  spent_low : (made left budget : ℕ) → made + left ≡ budget → made ≤ budget
  spent_low made left budget is = omega arith

  lacks_none : length added ≤ o.first.left / half_window st → LacksStoreRoom st k.was.cluster.coordinator call → ⊥
  lacks_none low (inl many) =
      not_many k.was.cluster.coordinator.acknowledged (length bodies) (length start) (length added) (o.first.left / half_window st) k.count (ap (length {A = List ℕ}) k.was.keeps.stored ∙ length-append start added) low few many.0
  lacks_none low (inr over) =
      not_long k.was.cluster.coordinator.store_end (length stored) (records_size bodies) (length front) (records_size start) (records_size added) (length added * apart) (counted added) (length (stored_order bodies)) (length (stored_order start))
      (length (unheld_updates call.last)) (length (call_order call)) (length call.base) (length (made_of call)) (length v.failures) o.first.left ((o.first.left / half_window st + 1) * apart) apart
      k.place (ap records_size k.was.keeps.stored ∙ size_parted start added) grown_is newest_long outside_low (order_few (shared_of st v.failures) call makes.is.is) (ap (length {A = Entry}) (makes.is.base ∙ k.kept))
      (spent_low (length (made_of call)) k.was.cluster.left o.first.left makes.tells.spent) (each_more (length added) (o.first.left / half_window st) apart low) short
      (subst (λ (n : ℕ). 1073741824 < k.was.cluster.coordinator.store_end + n) (lengths (length (unheld_updates call.last)) st.machines (size st.graph) (length st.graph.edges)) over)

  pub never_needs : NeedsMoreStore st k.was.cluster.coordinator call → ⊥
  never_needs needs = lacks_none (added_few needs.0) needs.1
