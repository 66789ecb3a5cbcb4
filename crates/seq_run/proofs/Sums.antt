-- Sums over the numbers below n.
use Rattle.std.proofs.Common.{◌≡◌, ℕ, zero, suc, ◌+◌, ◌*◌, ◌<◌, ◌≤◌, ◌==◌, Bool, true, false, if◌then◌else◌, refl, subst, ⊎_elim, arith, eq-eqb, ne_eqb}
use Rattle.std.proofs.lemmas.Bool.{cases_Bool, cases_eq}

abbrev pub sum_below : (ℕ → ℕ) → ℕ → ℕ
sum_below f zero = 0
sum_below f (suc n) = f n + sum_below f n

-- how many numbers below n pass the test
abbrev pub count_below : (ℕ → Bool) → ℕ → ℕ
count_below test n = sum_below (λ u. if test u then 1 else 0) n

pub sum_below-mono : (f h : ℕ → ℕ) (n : ℕ) → ((u : ℕ) → u < n → f u ≤ h u) → sum_below f n ≤ sum_below h n
sum_below-mono f h zero each = omega arith
sum_below-mono f h (suc n) each =
    let rest = sum_below-mono f h n (λ u low. each u (omega arith)) in
    let here = each n (omega arith) in omega arith

-- one term is lower by d, and no other one is higher
pub sum_below-less : (f h : ℕ → ℕ) (d v n : ℕ) → v < n → ((u : ℕ) → u < n → f u ≤ h u) → f v + d ≤ h v → sum_below f n + d ≤ sum_below h n
sum_below-less f h d v zero within each less = omega arith
sum_below-less f h d v (suc n) within each less = ⊎_elim
    (λ (same : v ≡ n).
    let here : f n + d ≤ h n = subst (λ x. f x + d ≤ h x) same less in
    let rest = sum_below-mono f h n (λ u low. each u (omega arith)) in omega arith)
    (λ (other : v ≡ n → ⊥).
    let rest = sum_below-less f h d v n (omega arith) (λ u low. each u (omega arith)) less in
    let here = each n (omega arith) in omega arith)
    (cases_eq v n)

pub sum_below-add : (f h : ℕ → ℕ) (n : ℕ) → sum_below (λ u. f u + h u) n ≡ sum_below f n + sum_below h n
sum_below-add f h zero = omega arith
sum_below-add f h (suc n) = let rest = sum_below-add f h n in omega arith

pub sum_below-le : (f : ℕ → ℕ) (most n : ℕ) → ((u : ℕ) → u < n → f u ≤ most) → sum_below f n ≤ n * most
sum_below-le f most zero each = omega arith
sum_below-le f most (suc n) each =
    let rest = sum_below-le f most n (λ u low. each u (omega arith)) in
    let here = each n (omega arith) in omega arith

pub sum_below-scale : (f : ℕ → ℕ) (k n : ℕ) → sum_below (λ u. f u * k) n ≡ sum_below f n * k
sum_below-scale f k zero = omega arith
sum_below-scale f k (suc n) = let rest = sum_below-scale f k n in omega arith

pub count_below-le : (test : ℕ → Bool) (n : ℕ) → count_below test n ≤ n
count_below-le test zero = omega arith
count_below-le test (suc n) = let rest = count_below-le test n in ⊎_elim
    (λ (passes : test n ≡ true). rw passes (omega arith))
    (λ (fails : test n ≡ false). rw fails (omega arith))
    (cases_Bool (test n))

pub count_below-nothing : (n : ℕ) → count_below (λ u. false) n ≡ 0
count_below-nothing zero = refl
count_below-nothing (suc n) = let rest = count_below-nothing n in omega arith

count_below-none : (k n : ℕ) → n ≤ k → count_below (λ u. k == u) n ≡ 0
count_below-none k zero above = refl
count_below-none k (suc n) above =
    let rest = count_below-none k n (omega arith) in
    rw (ne_eqb k n (λ same. omega arith)) (omega arith)

pub count_below-same : (k n : ℕ) → count_below (λ u. k == u) n ≤ 1
count_below-same k zero = omega arith
count_below-same k (suc n) = ⊎_elim
    (λ (same : k ≡ n). rw (eq-eqb k n same) (let rest = count_below-none k n (omega arith) in omega arith))
    (λ (other : k ≡ n → ⊥). rw (ne_eqb k n other) (let rest = count_below-same k n in omega arith))
    (cases_eq k n)

bit-le : (a b : Bool) → (a ≡ true → b ≡ true) → (if a then 1 else 0) ≤ (if b then 1 else 0)
bit-le a b follows = ⊎_elim
    (λ (holds : a ≡ true). rw (holds, follows holds) (omega arith))
    (λ (fails : a ≡ false). rw fails (omega arith))
    (cases_Bool a)

pub count_below-mono : (p q : ℕ → Bool) (n : ℕ) → ((u : ℕ) → u < n → p u ≡ true → q u ≡ true) → count_below p n ≤ count_below q n
count_below-mono p q n follows =
    sum_below-mono (λ u. if p u then 1 else 0) (λ u. if q u then 1 else 0) n (λ u within. bit-le (p u) (q u) (follows u within))

-- v passes q and not p, and whatever passes p passes q
pub count_below-less : (p q : ℕ → Bool) (v n : ℕ) → v < n → ((u : ℕ) → u < n → p u ≡ true → q u ≡ true) → p v ≡ false → q v ≡ true → count_below p n < count_below q n
count_below-less p q v n within follows fails holds =
    let here : (if p v then 1 else 0) + 1 ≤ (if q v then 1 else 0) = rw (fails, holds) (omega arith) in
    let less = sum_below-less (λ u. if p u then 1 else 0) (λ u. if q u then 1 else 0) 1 v n within (λ u low. bit-le (p u) (q u) (follows u low)) here in
    omega arith
