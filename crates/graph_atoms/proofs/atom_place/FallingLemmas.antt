-- Ranks in order are atoms by falling weight.
use Rattle.std.proofs.Common.{◌≡◌, ◌≢◌, ℕ, zero, suc, ◌+◌, ◌-◌, ◌<◌, ◌≤◌, inl, inr, List, [], ◌∷◌, ◌++◌, length, get_or, map, false, true, eqb, sym, ap, ◌∙◌, subst, arith}
use Rattle.std.specs.Ordering.{is_lt, ordering_then, nat_cmp}
use Rattle.std.specs.List.{range_with_len, IsDistinct, AllByRecursion}
use Rattle.std.specs.List.Sorted.{IsPermutation, IsSortedBy}
use Rattle.std.specs.declared.cmp.Ordering.{Ordering}
use Rattle.std.proofs.lemmas.Bool.{cases_lt, cases_eq, cases_order, lt-ltb, le-ltb, eq-eqb, ne_eqb, eqb-false}
use Rattle.std.proofs.lemmas.List.{map_push, get_or-map, length-map}
use Rattle.std.proofs.lemmas.List.Sorted.{IsPermutation-map, All-permutation}
use Rattle.std.proofs.lemmas.Map.Keys.{IsDistinct-cons, IsDistinct-IsPermutation, apart_from_distinct}
use Rattle.graph_atoms.specs.declared.atom_place.falling.Rank.{Rank}
use Rattle.graph_atoms.specs.atom_place.Placing.{ComesFirst, all_atoms, IsFalling}
use Rattle.graph_atoms.specs.atom_place.Inner.Ranks.{IsRank, AreRanks}

-- one number more
pub range-more : (a n : ℕ) → range_with_len a (n + 1) ≡ range_with_len a n ++ (a + n) ∷ []
range-more a n =
    let more : n + 1 ≡ suc n = omega arith in
    ap (range_with_len a) more ∙ range-suc a n
  where
    range-suc : (a n : ℕ) → range_with_len a (suc n) ≡ range_with_len a n ++ (a + n) ∷ []
    range-suc a zero = let none : a ≡ a + 0 = omega arith in ap (λ (x : ℕ). x ∷ []) none
    range-suc a (suc n) =
        let next : a + 1 + n ≡ a + suc n = omega arith in
        ap (λ (xs : List ℕ). a ∷ xs) (range-suc (a + 1) n ∙ ap (λ (x : ℕ). range_with_len (a + 1) n ++ x ∷ []) next)

-- the numbers of the atoms differ
above : (a b n : ℕ) → a < b → AllByRecursion (λ y. eqb a y ≡ false) (range_with_len b n)
above a b zero h = tt
above a b (suc n) h = (ne_eqb a b (λ e. omega arith), above a (b + 1) n (omega arith))

range_apart : (a n : ℕ) → IsDistinct eqb (range_with_len a n)
unfolding IsDistinct
range_apart a zero = tt
range_apart a (suc n) = IsDistinct-cons eqb a (range_with_len (a + 1) n) (above a (a + 1) n (omega arith)) (range_apart (a + 1) n)

eqb_flips : (x y : ℕ) → eqb x y ≡ eqb y x
eqb_flips x y = elim (cases_eq x y) [
  | inl e ↦ eq-eqb x y e ∙ sym (eq-eqb y x (sym e))
  | inr n ↦ ne_eqb x y n ∙ sym (ne_eqb y x (λ e. n (sym e)))
]

order_apart : (n : ℕ) (order : List ℕ) → IsPermutation (range_with_len 0 n) order → (i j d : ℕ) → i < j → j < length order → get_or order i d ≢ get_or order j d
order_apart n order perm i j d before inside =
    eqb-false (get_or order i d) (get_or order j d) (apart_from_distinct eqb order i j d (IsDistinct-IsPermutation eqb eqb_flips (range_with_len 0 n) order perm (range_apart 0 n)) before inside)

abbrev rank_cmp : Rank → Rank → Ordering
rank_cmp x y = ordering_then (nat_cmp y.weight.0 x.weight.0) (nat_cmp x.atom y.atom)

-- one rank stands no later than another
record StandsBefore (x y : Rank) : Type 0 where
  weight : y.weight.0 ≤ x.weight.0
  atom : x.weight.0 ≤ y.weight.0 → x.atom ≤ y.atom

before_is_refl : (x : Rank) → StandsBefore x x
before_is_refl x = record { weight = omega arith; atom = λ h. omega arith }

before_trans : (x y z : Rank) → StandsBefore x y → StandsBefore y z → StandsBefore x z
before_trans x y z p q =
    record {
      weight = omega (arith, p.weight, q.weight);
      atom = λ h. omega (arith, p.atom (omega (arith, q.weight)), q.atom (omega (arith, p.weight)));
    }

-- y is not below x
not_below : (x y : Rank) → is_lt (rank_cmp y x) ≡ false → StandsBefore x y
not_below x y h = elim (cases_order x.weight.0 y.weight.0) [
  | inl same ↦ elim (cases_lt y.atom x.atom) [
    | inl lower ↦ absurd (true_false (sym (rw (le-ltb x.weight.0 y.weight.0 (omega arith), eq-eqb x.weight.0 y.weight.0 same, lt-ltb y.atom x.atom lower) at h)))
    | inr higher ↦ record { weight = omega arith; atom = λ _. higher }
  ]
  | inr (inl heavier) ↦ absurd (true_false (sym (rw (lt-ltb x.weight.0 y.weight.0 heavier) at h)))
  | inr (inr lighter) ↦ record { weight = omega arith; atom = λ h. absurd (omega arith) }
]
  where
    true_false : false ≡ true → ⊥
    true_false e = cc

-- of sorted ranks each stands before all later ones
sorted_before : (xs : List Rank) (d : Rank) → IsSortedBy (λ a b. is_lt (rank_cmp a b)) xs → (i k : ℕ) → i + k < length xs → StandsBefore (get_or xs i d) (get_or xs (i + k) d)
sorted_before xs d sorted i zero inside =
    let none : i ≡ i + 0 = omega arith in
    subst (λ (j : ℕ). StandsBefore (get_or xs i d) (get_or xs j d)) none (before_is_refl (get_or xs i d))
sorted_before xs d sorted i (suc k) inside =
    let next : i + k + 1 ≡ i + suc k = omega arith in
    subst (λ (j : ℕ). StandsBefore (get_or xs i d) (get_or xs j d)) next
    (before_trans (get_or xs i d) (get_or xs (i + k) d) (get_or xs (i + k + 1) d) (sorted_before xs d sorted i k (omega arith)) (not_below (get_or xs (i + k) d) (get_or xs (i + k + 1) d) (sorted (i + k) d (omega arith) (omega arith))))

-- of two atoms in their turns the first comes first
comes_first : (weights : List ℕ) (x y : Rank) → StandsBefore x y → IsRank weights x → IsRank weights y → x.atom ≢ y.atom → ComesFirst weights x.atom y.atom
comes_first weights x y stands is_x is_y apart = elim (cases_lt y.weight.0 x.weight.0) [
  | inl lighter ↦ inl (omega (arith, is_x, is_y))
  | inr as_heavy ↦
      let lower = stands.atom as_heavy in
      inr (omega (arith, is_x, is_y, stands.weight), less x.atom y.atom lower apart)
]
  where
    less : (a b : ℕ) → a ≤ b → a ≢ b → a < b
    less a b le ne = omega arith

-- sorted ranks are atoms by falling weight
pub IsFalling-from_sorted : (weights : List ℕ) (ranks sorted : List Rank) → AreRanks weights ranks → IsPermutation ranks sorted → IsSortedBy (λ a b. is_lt (rank_cmp a b)) sorted → IsFalling weights (map (λ (r : Rank). r.atom) sorted)
IsFalling-from_sorted weights ranks sorted are perm up =
    let atom : Rank → ℕ = λ r. r.atom in
    let order = map atom sorted in
    let all : IsPermutation (all_atoms weights) order = subst (λ (xs : List ℕ). IsPermutation xs order) are.atoms (IsPermutation-map atom ranks sorted perm) in
    let each = All-permutation (IsRank weights) ranks sorted perm are.each in
    record {
      all = all;
      falling = λ i j d before inside.
          let len : length order ≡ length sorted = length-map sorted atom in
          let r : Rank = record { weight = record { 0 = 0 }; atom = d } in
          let far : i + (j - i) ≡ j = omega arith in
          let stands = subst (λ (k : ℕ). StandsBefore (get_or sorted i r) (get_or sorted k r)) far (sorted_before sorted r up i (j - i) (omega arith)) in
          let at_i : get_or order i d ≡ (get_or sorted i r).atom = get_or-map atom sorted i r d (omega arith) in
          let at_j : get_or order j d ≡ (get_or sorted j r).atom = get_or-map atom sorted j r d (omega arith) in
          let apart = order_apart (length weights) order all i j d before inside in
          let first = comes_first weights (get_or sorted i r) (get_or sorted j r) stands (each i r (omega arith)) (each j r (omega arith)) (λ e. apart (at_i ∙ e ∙ sym at_j)) in
          rw (at_i, at_j) first;
    }

-- one rank more
pub atoms-more : (ranks new : List Rank) (r : Rank) (n : ℕ) → map (λ (r : Rank). r.atom) ranks ≡ range_with_len 0 n → r.atom ≡ n → new ≡ ranks ++ r ∷ [] → map (λ (r : Rank). r.atom) new ≡ range_with_len 0 (n + 1)
atoms-more ranks new r n so_far is grown =
    let plus : n ≡ 0 + n = omega arith in
    ap (map (λ (r : Rank). r.atom)) grown ∙ map_push (λ (r : Rank). r.atom) ranks r
    ∙ ap (λ (xs : List ℕ). xs ++ r.atom ∷ []) so_far
    ∙ ap (λ (x : ℕ). range_with_len 0 n ++ x ∷ []) (is ∙ plus) ∙ sym (range-more 0 n)
