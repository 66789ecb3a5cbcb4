-- Lists whose keys ascend strictly, and keys that stand twice.
use Rattle.std.proofs.Common.{◌≡◌, ℕ, ◌+◌, ◌-◌, ◌<◌, ◌≤◌, Bool, true, false, cond, ◌||◌, List, [], ◌∷◌, ◌++◌, length, map, take, get_or, eqb, nat_eq, nat_cmp, refl, sym, subst, ⊎_elim, arith}
use Rattle.std.specs.List.{IsDistinct, list_any}
use Rattle.std.specs.List.Sorted.{IsPermutation, IsNonDecreasingBy}
use Rattle.std.specs.Ordering.{is_eq}
use Rattle.std.proofs.lemmas.Bool.{cases_lt, cases_eq, cases_order, eq-eqb, ne_eqb, eqb-true, eqb-false, lt-ltb, le-ltb}
use Rattle.std.proofs.lemmas.Cmp.{nat_eq_equiv}
use Rattle.std.proofs.lemmas.List.{take_more, take_all, get_or-take, length-take-le, length-map, get_or-map, get_or_default}
use Rattle.std.proofs.lemmas.List.Folds.{list_any-append}
use Rattle.std.proofs.lemmas.List.Quantifiers.{all_pairs_push}
use Rattle.std.proofs.lemmas.List.Sorted.{IsPermutation-map}
use Rattle.std.proofs.lemmas.Map.Keys.{IsDistinct-push, IsDistinct-IsPermutation, apart_from_distinct}
use Rattle.std.proofs.lemmas.Map.Views.{Contains-from_any}
use Rattle.graph_core.specs.Inner.SortedKeys.{Rises, IsFirstDouble}

-- one item more that is above the last
pub rises_more : {T : Type 0} (key : T → ℕ) (xs : List T) (k : ℕ) → Rises key (take k xs) → 0 < k → k < length xs → ((d : T) → key (get_or xs (k - 1) d) < key (get_or xs k d)) → Rises key (take (k + 1) xs)
rises_more {T} key xs k up some inside step =
    let len : length (take k xs) ≡ k = length-take-le k xs (omega arith) in
    λ i j d l m.
    let more : take (k + 1) xs ≡ take k xs ++ get_or xs k d ∷ [] = take_more xs k d inside in
    let below : (a : ℕ) (e : T) → a < length (take k xs) → key (get_or (take k xs) a e) < key (get_or xs k d) =
    λ a e in'.
    let last = get_or-take k xs (k - 1) e (omega arith) in
    ⊎_elim
    (λ c. let h = up a (k - 1) e c (omega arith) in
    let h' : key (get_or (take k xs) a e) < key (get_or xs (k - 1) e) = rw last at h in
    let s : key (get_or xs (k - 1) e) < key (get_or xs k d) = subst (λ x. key (get_or xs (k - 1) e) < key x) (get_or_default xs k e d inside) (step e) in
    omega arith)
    (λ (c : k - 1 ≤ a). let is : a ≡ k - 1 = omega arith in
    let s : key (get_or xs (k - 1) e) < key (get_or xs k d) = subst (λ x. key (get_or xs (k - 1) e) < key x) (get_or_default xs k e d inside) (step e) in
    rw (is, last) s)
    (cases_lt a (k - 1)) in
    let all = all_pairs_push (λ x y. key x < key y) (take k xs) (get_or xs k d) up below in
    subst (λ ys. Rises key ys) (sym more) all i j d l m

pub rises_all : {T : Type 0} (key : T → ℕ) (xs : List T) (k : ℕ) → Rises key (take k xs) → length xs ≤ k → Rises key xs
rises_all key xs k up le = subst (λ ys. Rises key ys) (take_all k xs le) up

at_key : (k q : ℕ) → is_eq (nat_cmp k q) ≡ eqb q k
at_key k q =
    ⊎_elim
    (λ e. rw (e, le-ltb q q (omega arith), eq-eqb q q refl) refl)
    (λ e. ⊎_elim
    (λ (l : k < q). rw (lt-ltb k q l, ne_eqb q k (λ f. omega arith)) refl)
    (λ (l : q < k). rw (le-ltb k q (omega arith), ne_eqb k q (λ f. omega arith), ne_eqb q k (λ f. omega arith)) refl)
    e)
    (cases_order k q)

same_test : (q k : ℕ) (old : Bool) → cond (is_eq (nat_cmp k q)) true old ≡ (old || (eqb q k || false))
same_test q k old = rw (at_key k q) (by_cases old (eqb q k))
  where
    by_cases : (a b : Bool) → cond b true a ≡ (a || (b || false))
    by_cases true true = refl
    by_cases true false = refl
    by_cases false true = refl
    by_cases false false = refl

-- a set that takes one key more
pub seen_more : (ks : List ℕ) (place k q : ℕ) (old new : Bool) → place < length ks → k ≡ get_or ks place 0 → new ≡ cond (is_eq (nat_cmp k q)) true old → old ≡ list_any (eqb q) (take place ks) → new ≡ list_any (eqb q) (take (place + 1) ks)
seen_more ks place k q old new inside is took was =
    let more : take (place + 1) ks ≡ take place ks ++ get_or ks place 0 ∷ [] = take_more ks place 0 inside in
    let both : list_any (eqb q) (take place ks ++ k ∷ []) ≡ (list_any (eqb q) (take place ks) || (eqb q k || false)) = list_any-append (eqb q) (take place ks) (k ∷ []) in
    let all : list_any (eqb q) (take (place + 1) ks) ≡ (old || (eqb q k || false)) = rw (more, ← is, was) both in
    rw (took, all) (same_test q k old)

pub distinct_more : (ks : List ℕ) (place : ℕ) → place < length ks → IsDistinct nat_eq (take place ks) → list_any (eqb (get_or ks place 0)) (take place ks) ≡ false → IsDistinct nat_eq (take (place + 1) ks)
distinct_more ks place inside apart new =
    rw (take_more ks place 0 inside) (IsDistinct-push nat_eq_equiv (take place ks) (get_or ks place 0) apart new)

pub distinct_none : IsDistinct nat_eq []
unfolding IsDistinct
distinct_none = tt

pub first_double_here : (ks : List ℕ) (place : ℕ) → place < length ks → IsDistinct nat_eq (take place ks) → list_any (eqb (get_or ks place 0)) (take place ks) ≡ true → IsFirstDouble ks place
first_double_here ks place inside apart again =
    record { inside = inside; double = Contains-from_any eqb-true (get_or ks place 0) (take place ks) again; first = apart }

-- items that do not fall and have no key twice rise
pub rises_from_distinct : {T : Type 0} (key : T → ℕ) (items sorted : List T) → IsPermutation items sorted → IsNonDecreasingBy key sorted → IsDistinct nat_eq (map key items) → Rises key sorted
rises_from_distinct key items sorted same up apart =
    let keys = IsDistinct-IsPermutation nat_eq eq_flips (map key items) (map key sorted) (IsPermutation-map key items sorted same) apart in
    λ i j d l m.
    let differ = apart_from_distinct nat_eq (map key sorted) i j 0 keys l (omega (arith, length-map sorted key)) in
    let differ' = rw (get_or-map key sorted i d 0 (omega arith), get_or-map key sorted j d 0 m) at differ in
    let le = up i j d (omega arith) m in
    let ne = eqb-false (key (get_or sorted i d)) (key (get_or sorted j d)) differ' in
    omega arith
  where
    eq_flips : (x y : ℕ) → eqb x y ≡ eqb y x
    eq_flips x y = ⊎_elim (λ e. rw e refl) (λ e. rw (ne_eqb x y e, ne_eqb y x (λ f. e (sym f))) refl) (cases_eq x y)
