-- Identifiers can be put in order in one way.
use Rattle.std.proofs.Common.{◌≡◌, ◌≤◌, ◌<◌, ℕ, List, length, cond, refl, sym, arith, ⊎_elim, suc, zero, ◌+◌, [], ◌∷◌, get_or, nat_lt}
use Rattle.std.proofs.lemmas.Bool.{cases_lt, lt-ltb, le-ltb}
use Rattle.std.specs.List.{count_by}
use Rattle.std.specs.List.Sorted.{IsPermutation}
use Rattle.std.proofs.lemmas.List.{ext_get_or}
use Rattle.std.proofs.lemmas.List.Sums.{sum_by-cons}
use Rattle.std.proofs.lemmas.List.Sorted.{IsPermutation-sym, IsPermutation-trans, sum_by-IsPermutation, length_permutation}

abbrev Ascends : List ℕ → Type 0
Ascends xs = (i j : ℕ) → i < j → j < length xs → get_or xs i 0 < get_or xs j 0

-- how many are below v
abbrev below : ℕ → List ℕ → ℕ
below v xs = count_by (λ x. nat_lt x v) xs

abbrev counted : ℕ → ℕ → ℕ
counted v x = cond (nat_lt x v) 1 0

Ascends-tail : (x : ℕ) (xs : List ℕ) → Ascends (x ∷ xs) → Ascends xs
Ascends-tail x xs h i j before inside = h (suc i) (suc j) (omega arith) (omega arith)

below-cons : (v x : ℕ) (xs : List ℕ) → below v (x ∷ xs) ≡ counted v x + below v xs
below-cons v x xs = sum_by-cons (counted v) x xs

counted-low : (v x : ℕ) → x < v → counted v x ≡ 1
counted-low v x low = rw (lt-ltb x v low) refl

counted-high : (v x : ℕ) → v ≤ x → counted v x ≡ 0
counted-high v x high = rw (le-ltb x v high) refl

counted-le : (v x : ℕ) → counted v x ≤ 1
counted-le v x = ⊎_elim (λ low. omega (arith, counted-low v x low)) (λ high. omega (arith, counted-high v x high)) (cases_lt x v)

-- above the k-th there are more than k below
more_below : (v k : ℕ) (xs : List ℕ) → Ascends xs → k < length xs → get_or xs k 0 < v → k + 1 ≤ below v xs
more_below v k [] h inside low = absurd (omega arith)
more_below v zero (x ∷ xs) h inside low = omega (arith, below-cons v x xs, counted-low v x low)
more_below v (suc k) (x ∷ xs) h inside low =
    let first : x < get_or xs k 0 = h 0 (suc k) (omega arith) inside in
    omega (arith, below-cons v x xs, counted-low v x (omega arith), more_below v k xs (Ascends-tail x xs h) (omega arith) low)

-- at most the k-th there are at most k below
few_below : (v k : ℕ) (xs : List ℕ) → Ascends xs → k < length xs → v ≤ get_or xs k 0 → below v xs ≤ k
few_below v k [] h inside high = absurd (omega arith)
few_below v zero (x ∷ []) h inside high = omega (arith, below-cons v x [], counted-high v x high)
few_below v zero (x ∷ y ∷ xs) h inside high =
    let next : x < y = h 0 1 (omega arith) (omega arith) in
    omega (arith, below-cons v x (y ∷ xs), counted-high v x high, few_below v 0 (y ∷ xs) (Ascends-tail x (y ∷ xs) h) (omega arith) (omega arith))
few_below v (suc k) (x ∷ xs) h inside high =
    omega (arith, below-cons v x xs, counted-le v x, few_below v k xs (Ascends-tail x xs h) (omega arith) high)

-- one list has one order that ascends
pub sorted_once : (given a b : List ℕ) → Ascends a → Ascends b → IsPermutation given a → IsPermutation given b → a ≡ b
sorted_once given a b a_ascends b_ascends p q =
    let r : IsPermutation a b = IsPermutation-trans a given b (IsPermutation-sym given a p) q in
    let long : length b ≡ length a = length_permutation a b r in
    let same = λ (v : ℕ). sum_by-IsPermutation (counted v) a b r in
    ext_get_or 0 a b (sym long) (λ k inside.
    let x = get_or a k 0 in
    let y = get_or b k 0 in
    ⊎_elim
    (λ lower. absurd (omega (arith, same (x + 1), more_below (x + 1) k a a_ascends inside (omega arith), few_below (x + 1) k b b_ascends (omega arith) (omega arith))))
    (λ high. ⊎_elim
    (λ higher. absurd (omega (arith, same (y + 1), more_below (y + 1) k b b_ascends (omega arith) (omega arith), few_below (y + 1) k a a_ascends inside (omega arith))))
    (λ low. omega arith)
    (cases_lt y x))
    (cases_lt x y))
