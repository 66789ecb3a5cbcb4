-- Orders of which one is earlier than another.
use Rattle.std.proofs.Common.{◌≡◌, ◌≤◌, Bool, true, false, ℕ, zero, suc, ◌==◌, if◌then◌else◌, List, [], ◌∷◌, ◌++◌, filter, map, take, refl, sym, ap, ◌∙◌, subst, subst₂, le_refl, le_trans, append_assoc, append-nil, arith}
use Rattle.std.specs.List.{AllByRecursion}
use Rattle.std.proofs.lemmas.List.Elements.{filter-append}
use Rattle.gl_base.specs.declared.entries.Entry.{Entry}
use Rattle.gl_base.specs.declared.entries.Entry.TheVariants.{Go, Restart}
use Rattle.graph_core.proofs.HalvesLaws.{each-append}
use Rattle.cluster_laws.proofs.cluster_cuts.CutLists.{cut_updates}
use Rattle.call_laws.specs.attempts.Beginnings.{last_of}
use Rattle.cluster_laws.specs.cluster_runs.Attempts.{AreRising}
use Rattle.cluster_laws.specs.cluster_cuts.Goings.{AreUpdatesFrom}
use Rattle.cluster_laws.specs.cluster_core.Cuts.{Begins, cut_of, updates_at}
use Rattle.call_laws.specs.attempts.Entries.{is_restart}
use Rattle.call_laws.specs.attempts.Stores.{AreEarlierFirst, IsEarlier, last_order}
use Rattle.call_laws.proofs.attempts.Accounting.{filter_none}
use Rattle.call_laws.proofs.attempts.Cutting.{all_cut}
use Rattle.call_laws.proofs.attempts.Failing.{no_restart}
use Rattle.call_laws.proofs.attempts.Standing.{all_weaker}

begins_append : (xs ys zs : List Entry) → Begins xs ys → Begins xs (ys ++ zs)
begins_append xs ys zs begins = (begins.0 ++ zs, ap (λ (es : List Entry). es ++ zs) begins.1 ∙ append_assoc xs begins.0 zs)

begins_behind : (front xs ys : List Entry) → Begins xs ys → Begins (front ++ xs) (front ++ ys)
begins_behind front xs ys begins = (begins.0, ap (λ (es : List Entry). front ++ es) begins.1 ∙ sym (append_assoc front xs begins.0))

none_low : (n : ℕ) → suc n ≤ 0 → ⊥
none_low n is = omega arith

suc_down : (n k : ℕ) → suc n ≤ suc k → n ≤ k
suc_down n k is = omega arith

fewer_first : (n m : ℕ) (entries : List Entry) → n ≤ m → Begins (take n entries) (take m entries)
fewer_first zero m entries low = (take m entries, refl)
fewer_first (suc n) zero entries low = absurd (none_low n low)
fewer_first (suc n) (suc m) [] low = ([], refl)
fewer_first (suc n) (suc m) (entry ∷ entries) low = let rest = fewer_first n m entries (suc_down n m low) in (rest.0, ap (λ (es : List Entry). entry ∷ es) rest.1)

if_append : (b : Bool) (e : Entry) (xs zs ys : List Entry) → zs ≡ xs ++ ys → (if b then e ∷ zs else zs) ≡ (if b then e ∷ xs else xs) ++ ys
if_append true e xs zs ys same = ap (λ (es : List Entry). e ∷ es) same
if_append false e xs zs ys same = same

updates_append : (v : ℕ) (xs ys : List Entry) → updates_at v (xs ++ ys) ≡ updates_at v xs ++ updates_at v ys
updates_append v [] ys = refl
updates_append v (Restart ticket ∷ xs) ys = updates_append v xs ys
updates_append v (Go m u t ∷ xs) ys = if_append (u.0 == v) (Go m u t) (updates_at v xs) (updates_at v (xs ++ ys)) (updates_at v ys) (updates_append v xs ys)

pub earlier_self : (order : List Entry) → IsEarlier order order
earlier_self order = record { updates = λ v. ([], sym (append-nil (updates_at v order))); restarts = ([], sym (append-nil (filter is_restart order))) }

pub earlier_longer : (earlier order more : List Entry) → IsEarlier earlier order → IsEarlier earlier (order ++ more)
earlier_longer earlier order more is =
    record {
      updates = λ v. subst (Begins (updates_at v earlier)) (sym (updates_append v order more)) (begins_append (updates_at v earlier) (updates_at v order) (updates_at v more) (is.updates v));
      restarts = subst (Begins (filter is_restart earlier)) (sym (filter-append is_restart order more)) (begins_append (filter is_restart earlier) (filter is_restart order) (filter is_restart more) is.restarts);
    }

-- the counts are nowhere above the others
abbrev pub IsUnder : (ℕ → ℕ) → (ℕ → ℕ) → Type 0
IsUnder count later = (v : ℕ) → count v ≤ later v

cut_alone : (count : ℕ → ℕ) (next : ℕ) (made : List Entry) → AreUpdatesFrom next made → filter is_restart (cut_of count made) ≡ []
cut_alone count next made tickets = filter_none is_restart (cut_of count made) (all_cut (λ entry. is_restart entry ≡ false) count made (no_restart next made tickets))

pub cut_earlier : (front : List Entry) (count later : ℕ → ℕ) (next : ℕ) (made : List Entry) → AreUpdatesFrom next made → IsUnder count later → IsEarlier (front ++ cut_of count made) (front ++ cut_of later made)
cut_earlier front count later next made tickets under =
    record {
      updates = λ v. subst₂ Begins
          (ap (λ (es : List Entry). updates_at v front ++ es) (sym (cut_updates v count made)) ∙ sym (updates_append v front (cut_of count made)))
          (ap (λ (es : List Entry). updates_at v front ++ es) (sym (cut_updates v later made)) ∙ sym (updates_append v front (cut_of later made)))
          (begins_behind (updates_at v front) (take (count v) (updates_at v made)) (take (later v) (updates_at v made)) (fewer_first (count v) (later v) (updates_at v made) (under v)));
      restarts = (
        [],
        filter-append is_restart front (cut_of later made)
            ∙ ap (λ (es : List Entry). filter is_restart front ++ es) (cut_alone later next made tickets ∙ sym (cut_alone count next made tickets))
            ∙ sym (filter-append is_restart front (cut_of count made)) ∙ sym (append-nil (filter is_restart (front ++ cut_of count made))),
      );
    }

-- ---- counts that rise

pub rising_all : (count : ℕ → ℕ) (counts : List (ℕ → ℕ)) → AreRising count counts → AllByRecursion (IsUnder count) counts
rising_all count [] rising = tt
rising_all count (later ∷ counts) rising =
    (rising.0, all_weaker (IsUnder later) (IsUnder count) (λ other under v. le_trans (rising.0 v) (under v)) counts (rising_all later counts rising.1))

pub last_above : (count : ℕ → ℕ) (counts : List (ℕ → ℕ)) → AreRising count counts → IsUnder count (last_of count counts)
last_above count [] rising v = le_refl (count v)
last_above count (later ∷ counts) rising v = le_trans (rising.0 v) (last_above later counts rising.1 v)

pub rising_last : (count : ℕ → ℕ) (counts : List (ℕ → ℕ)) → AreRising count counts → AllByRecursion (λ (c : ℕ → ℕ). IsUnder c (last_of count counts)) counts
rising_last count [] rising = tt
rising_last count (later ∷ counts) rising = (last_above later counts rising.1, rising_last later counts rising.1)

pub rising_more : (count : ℕ → ℕ) (counts : List (ℕ → ℕ)) (later : ℕ → ℕ) → AreRising count counts → IsUnder (last_of count counts) later → AreRising count (counts ++ later ∷ [])
rising_more count [] later rising under = (under, tt)
rising_more count (c ∷ counts) later rising under = (rising.0, rising_more c counts later rising.1 under)

-- ---- lists of orders

pub all_map : {X Y : Type 0} (P : Y → Type 0) (f : X → Y) (xs : List X) → AllByRecursion (λ x. P (f x)) xs → AllByRecursion P (map f xs)
all_map P f [] all = tt
all_map P f (x ∷ xs) all = (all.0, all_map P f xs all.1)

pub cuts_earlier_first : (front : List Entry) (next : ℕ) (made : List Entry) → AreUpdatesFrom next made → (count : ℕ → ℕ) (counts : List (ℕ → ℕ)) → AreRising count counts →
    AreEarlierFirst (map (λ (c : ℕ → ℕ). front ++ cut_of c made) counts)
cuts_earlier_first front next made tickets count [] rising = tt
cuts_earlier_first front next made tickets count (c ∷ counts) rising = (
  all_map (IsEarlier (front ++ cut_of c made)) (λ (d : ℕ → ℕ). front ++ cut_of d made) counts
      (all_weaker (IsUnder c) (λ (d : ℕ → ℕ). IsEarlier (front ++ cut_of c made) (front ++ cut_of d made)) (λ d under. cut_earlier front c d next made tickets under) counts (rising_all c counts rising.1)),
  cuts_earlier_first front next made tickets c counts rising.1,
)

pub earlier_first_append : (orders more : List (List Entry)) → AreEarlierFirst orders → AreEarlierFirst more → AllByRecursion (λ (order : List Entry). AllByRecursion (IsEarlier order) more) orders →
    AreEarlierFirst (orders ++ more)
earlier_first_append [] more first second across = second
earlier_first_append (order ∷ orders) more first second across = (
  each-append (IsEarlier order) orders more first.0 across.0,
  earlier_first_append orders more first.1 second across.1,
)

pub earlier_first_front : (orders more : List (List Entry)) → AreEarlierFirst (orders ++ more) → AreEarlierFirst orders
earlier_first_front [] more first = tt
earlier_first_front (order ∷ orders) more first = (front (IsEarlier order) orders more first.0, earlier_first_front orders more first.1)
  where
    front : {X : Type 0} (P : X → Type 0) (xs ys : List X) → AllByRecursion P (xs ++ ys) → AllByRecursion P xs
    front P [] ys all = tt
    front P (x ∷ xs) ys all = (all.0, front P xs ys all.1)

pub last_order_holds : (P : List Entry → Type 0) (order : List Entry) (orders : List (List Entry)) → P order → AllByRecursion P orders → P (last_order order orders)
last_order_holds P order [] here all = here
last_order_holds P order (later ∷ orders) here all = last_order_holds P later orders all.0 all.1

pub earlier_than_last : (none : List Entry) (orders : List (List Entry)) → AreEarlierFirst orders → AllByRecursion (λ (order : List Entry). IsEarlier order (last_order none orders)) orders
earlier_than_last none [] first = tt
earlier_than_last none (order ∷ orders) first = (last_order_holds (IsEarlier order) order orders (earlier_self order) first.0, earlier_than_last order orders first.1)

pub last_order_append : (none : List Entry) (orders more : List (List Entry)) → last_order none (orders ++ more) ≡ last_order (last_order none orders) more
last_order_append none [] more = refl
last_order_append none (order ∷ orders) more = last_order_append order orders more

pub last_order_map : (f : (ℕ → ℕ) → List Entry) (count : ℕ → ℕ) (counts : List (ℕ → ℕ)) → last_order (f count) (map f counts) ≡ f (last_of count counts)
last_order_map f count [] = refl
last_order_map f count (later ∷ counts) = last_order_map f later counts
