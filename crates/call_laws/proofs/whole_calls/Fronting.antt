-- The orders of a call's snapshots, one after another: they are told by what their attempts began with and by what their sections bring.
use Rattle.std.proofs.Common.{◌≡◌, ℕ, suc, ◌+◌, ◌∙◌, ◌&&◌, Bool, true, false, if◌then◌else◌, List, [], ◌∷◌, ◌++◌, IsPermutation, cond, count_by, filter, length, map, not, replicate, refl, sym, ap, ap₂, subst, append-nil, arith}
use Rattle.std.specs.List.{AllByRecursion}
use Rattle.std.proofs.lemmas.List.Elements.{filter-append}
use Rattle.std.proofs.lemmas.List.Sorted.{IsPermutation-filter_both}
use Rattle.std.proofs.lemmas.List.Sums.{sum_by-append, sum_by-cons}
use Rattle.gl_base.specs.declared.entries.Entry.{Entry}
use Rattle.gl_base.specs.declared.entries.Entry.TheVariants.{Go, Restart}
use Rattle.call_laws.specs.attempts.Beginnings.{snapshot_order}
use Rattle.call_laws.specs.attempts.EngineCalls.{EngineCall, IsEngineCall, IsOrderInTurn}
use Rattle.call_laws.specs.attempts.Entries.{is_restart, is_update}
use Rattle.call_laws.specs.attempts.Stores.{snapshots_of}
use Rattle.call_laws.proofs.attempts.Accounting.{filter_none}
use Rattle.call_laws.proofs.attempts.Cutting.{all_cut}
use Rattle.call_laws.proofs.attempts.Failing.{no_restart}
use Rattle.call_laws.proofs.attempts.Storing.{call_stores}
use Rattle.cluster_laws.specs.cluster_core.Cuts.{cut_of}
use Rattle.cluster_laws.specs.cluster_core.Settings.{Setting}
use Rattle.cluster_laws.specs.cluster_cuts.Goings.{AreUpdatesFrom}
use Rattle.cluster_laws.specs.cluster_model.Events.{entries_below}
use Rattle.cluster_laws.specs.cluster_model.Leading.{Snapshot}
use Rattle.whole_laws.proofs.cluster_records.Merging.{one_order}
use Rattle.cluster_laws.specs.cluster_runs.Attempts.{Attempt, Beginning, Shared}
use Rattle.cluster_laws.proofs.merged_logs.SameLemmas.{permutation_from, same_from}
use Rattle.call_laws.specs.whole_calls.Saved.{AreNextOrders, AreSnapshotsOf, IsNextOrder}

-- ---- restarts

-- each of these orders has the restarts of the one in its place
abbrev pub HaveRestartsOf : List (List Entry) → List (List Entry) → Type 0
HaveRestartsOf [] [] = Unit {0}
HaveRestartsOf [] (order ∷ orders) = ⊥
HaveRestartsOf (front ∷ fronts) [] = ⊥
HaveRestartsOf (front ∷ fronts) (order ∷ orders) = (filter is_restart order ≡ filter is_restart front) × HaveRestartsOf fronts orders

pub restarts_append : (fs gs os ps : List (List Entry)) → HaveRestartsOf fs os → HaveRestartsOf gs ps → HaveRestartsOf (fs ++ gs) (os ++ ps)
restarts_append [] gs [] ps one other = other
restarts_append [] gs (o ∷ os) ps one other = absurd one
restarts_append (f ∷ fs) gs [] ps one other = absurd one
restarts_append (f ∷ fs) gs (o ∷ os) ps one other = (one.0, restarts_append fs gs os ps one.1 other)

pub replicate_push : (ss : List Snapshot) (s : Snapshot) (front : List Entry) → replicate (length (ss ++ s ∷ [])) front ≡ replicate (length ss) front ++ front ∷ []
replicate_push [] s front = refl
replicate_push (one ∷ ss) s front = ap (λ (fs : List (List Entry)). front ∷ fs) (replicate_push ss s front)

-- the snapshots of an attempt have the restarts that it began with
pub attempt_restarts : (b : Beginning) (a : Attempt) (front : List Entry) → front ≡ b.front → AreUpdatesFrom b.next a.made → (many : ℕ) (counts : List (ℕ → ℕ)) → length counts ≡ many →
    HaveRestartsOf (replicate many front) (map (snapshot_order b a) counts)
attempt_restarts b a front same tickets many [] long = subst (λ (n : ℕ). HaveRestartsOf (replicate n front) []) long tt
attempt_restarts b a front same tickets many (count ∷ counts) long =
    subst (λ (n : ℕ). HaveRestartsOf (replicate n front) (map (snapshot_order b a) (count ∷ counts))) long (
      filter-append is_restart b.front (cut_of count a.made)
          ∙ ap (λ (es : List Entry). filter is_restart b.front ++ es) (filter_none is_restart (cut_of count a.made) (all_cut (λ entry. is_restart entry ≡ false) count a.made (no_restart b.next a.made tickets)))
          ∙ append-nil (filter is_restart b.front) ∙ ap (filter is_restart) (sym same),
      attempt_restarts b a front same tickets (length counts) counts refl,
    )

-- ---- updates

pub split : (q : Entry → Bool) (p : Entry → Bool) (xs : List Entry) → count_by p (filter q xs) ≡ count_by (λ x. q x && p x) xs
split q p [] = refl
split q p (x ∷ xs) = one (q x) (split q p xs) ∙ sym (sum_by-cons (λ (e : Entry). cond (q e && p e) 1 0) x xs)
  where
    zero_more : (n : ℕ) → n ≡ 0 + n
    zero_more n = omega arith

    one : (b : Bool) → count_by p (filter q xs) ≡ count_by (λ x. q x && p x) xs → count_by p (if b then x ∷ filter q xs else filter q xs) ≡ cond (b && p x) 1 0 + count_by (λ x. q x && p x) xs
    one true rest = sum_by-cons (λ (e : Entry). cond (p e) 1 0) x (filter q xs) ∙ ap (λ (n : ℕ). cond (p x) 1 0 + n) rest
    one false rest = rest ∙ zero_more (count_by (λ x. q x && p x) xs)

-- a permutation is one of the updates
pub filtered : (q : Entry → Bool) (xs ys : List Entry) → IsPermutation xs ys → IsPermutation (filter q xs) (filter q ys)
filtered q xs ys same = permutation_from (filter q xs) (filter q ys) (λ p. split q p xs ∙ same_from xs ys same (λ x. q x && p x) ∙ sym (split q p ys))

none_updated : (missing : List Entry) → AllByRecursion (λ entry. is_restart entry ≡ true) missing → filter is_update missing ≡ []
none_updated [] all = refl
none_updated (Go machine vertex ticket ∷ missing) all = absurd (not_so all.0)
  where
    not_so : false ≡ true → ⊥
    not_so is = cc
none_updated (Restart ticket ∷ missing) all = none_updated missing all.1

-- restarts that are missing add no update
pub without : (before missing brought : List Entry) → AllByRecursion (λ entry. is_restart entry ≡ true) missing → filter is_update (before ++ (missing ++ brought)) ≡ filter is_update (before ++ brought)
without before missing brought all =
    filter-append is_update before (missing ++ brought)
    ∙ ap (λ (es : List Entry). filter is_update before ++ es) (filter-append is_update missing brought ∙ ap (λ (es : List Entry). es ++ filter is_update brought) (none_updated missing all))
    ∙ sym (filter-append is_update before brought)

pub next_orders : (shared : Shared) (st : Setting) (number : ℕ) (before : List Entry) (fronts : List (List Entry)) (snapshots : List Snapshot) (orders : List (List Entry)) →
    AreSnapshotsOf st number before snapshots orders → HaveRestartsOf fronts orders → AllByRecursion (IsOrderInTurn shared) orders → AreNextOrders st before fronts snapshots orders
next_orders shared st number before [] [] [] are restarts in_turn = tt
next_orders shared st number before [] [] (o ∷ os) are restarts in_turn = absurd are
next_orders shared st number before [] (s ∷ ss) [] are restarts in_turn = absurd are
next_orders shared st number before [] (s ∷ ss) (o ∷ os) are restarts in_turn = absurd restarts
next_orders shared st number before (f ∷ fs) [] [] are restarts in_turn = absurd restarts
next_orders shared st number before (f ∷ fs) [] (o ∷ os) are restarts in_turn = absurd are
next_orders shared st number before (f ∷ fs) (s ∷ ss) [] are restarts in_turn = absurd are
next_orders shared st number before (f ∷ fs) (s ∷ ss) (o ∷ os) are restarts in_turn =
    let brought : List Entry = entries_below st.machines s in (
      record {
        high = in_turn.0.high;
        by_ticket = in_turn.0.by_ticket;
        restarts = restarts.0;
        updates = subst (λ (es : List Entry). IsPermutation es (filter is_update o)) (without before are.0.2 brought are.0.3) (filtered is_update (before ++ (are.0.2 ++ brought)) o are.0.4);
      },
      next_orders shared st (suc number) o fs ss os are.1 restarts.1 in_turn.1,
    )

-- ---- there is one list of them

not_update : (entry : Entry) → is_update entry ≡ not (is_restart entry)
not_update (Go machine vertex ticket) = refl
not_update (Restart ticket) = refl

one_next : (st : Setting) (front before : List Entry) (snapshot : Snapshot) (one other : List Entry) → IsNextOrder st front before snapshot one → IsNextOrder st front before snapshot other → one ≡ other
one_next st front before snapshot one other is is_too =
    let all : List Entry = filter is_update (before ++ entries_below st.machines snapshot) in
    one_order 0 0 is.high is_too.high one other is.by_ticket is_too.by_ticket
    (permutation_from one other (λ p.
    parts p one
    ∙ ap₂ (λ (n k : ℕ). n + k) (ap (count_by p) (is.restarts ∙ sym is_too.restarts)) (sym (same_from all (filter is_update one) is.updates p) ∙ same_from all (filter is_update other) is_too.updates p)
    ∙ sym (parts p other)))
  where
    parts : (p : Entry → Bool) (order : List Entry) → count_by p order ≡ count_by p (filter is_restart order) + count_by p (filter is_update order)
    parts p order =
        same_from order (filter is_restart order ++ filter is_update order) (IsPermutation-filter_both is_restart is_update not_update order) p
        ∙ sum_by-append (λ (e : Entry). cond (p e) 1 0) (filter is_restart order) (filter is_update order)

pub next_once : (st : Setting) (before : List Entry) (fronts : List (List Entry)) (snapshots : List Snapshot) (os ps : List (List Entry)) →
    AreNextOrders st before fronts snapshots os → AreNextOrders st before fronts snapshots ps → os ≡ ps
next_once st before [] [] [] [] are too = refl
next_once st before [] [] [] (p ∷ ps) are too = absurd too
next_once st before [] [] (o ∷ os) ps are too = absurd are
next_once st before [] (s ∷ ss) os ps are too = absurd are
next_once st before (f ∷ fs) [] os ps are too = absurd are
next_once st before (f ∷ fs) (s ∷ ss) [] ps are too = absurd are
next_once st before (f ∷ fs) (s ∷ ss) (o ∷ os) [] are too = absurd too
next_once st before (f ∷ fs) (s ∷ ss) (o ∷ os) (p ∷ ps) are too =
    let here : p ≡ o = one_next st f before s p o too.0 are.0 in
    ap₂ (λ (x : List Entry) (xs : List (List Entry)). x ∷ xs) (sym here) (next_once st o fs ss os ps are.1 (subst (λ (order : List Entry). AreNextOrders st order fs ss ps) here too.1))

-- the orders of the call's snapshots are by ticket
pub all_in_turn : (shared : Shared) (call : EngineCall) → IsEngineCall shared call → AllByRecursion (IsOrderInTurn shared) (snapshots_of call)
all_in_turn shared call is =
    (call_stores shared (call.base ∷ []) call (record { in_turn = (is.base, tt); earlier_first = (tt, tt) }) refl is).in_turn.1
