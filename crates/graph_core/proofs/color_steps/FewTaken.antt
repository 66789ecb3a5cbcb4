-- A list that contains each number from 1 on below c has c - 1 elements at least.
use Rattle.std.proofs.Common.{ℕ, zero, suc, ◌+◌, ◌<◌, ◌≤◌, if◌then◌else◌, List, [], ◌∷◌, length, nat_lt, ⊎_elim, Contains, arith}
use Rattle.std.proofs.lemmas.Bool.{lt-ltb, le-ltb, cases_lt}

-- how many are at least k
abbrev above : ℕ → List ℕ → ℕ
above k [] = 0
above k (x ∷ xs) = (if nat_lt x k then 0 else 1) + above k xs

above-le : (k : ℕ) (xs : List ℕ) → above k xs ≤ length xs
above-le k [] = omega arith
above-le k (x ∷ xs) =
    ⊎_elim
    (λ (l : x < k). rw (lt-ltb x k l) (omega (arith, above-le k xs)))
    (λ (l : k ≤ x). rw (le-ltb x k l) (omega (arith, above-le k xs)))
    (cases_lt x k)

above-more : (k : ℕ) (xs : List ℕ) → above (k + 1) xs ≤ above k xs
above-more k [] = omega arith
above-more k (x ∷ xs) =
    let rest = above-more k xs in
    ⊎_elim
    (λ (l : x < k + 1). ⊎_elim
    (λ (m : x < k). rw (lt-ltb x (k + 1) l, lt-ltb x k m) (omega (arith, rest)))
    (λ (m : k ≤ x). rw (lt-ltb x (k + 1) l, le-ltb x k m) (omega (arith, rest)))
    (cases_lt x k))
    (λ (l : k + 1 ≤ x). let m : k ≤ x = omega arith in rw (le-ltb x (k + 1) l, le-ltb x k m) (omega (arith, rest)))
    (cases_lt x (k + 1))

above-taken : (k : ℕ) (xs : List ℕ) → Contains xs k → above (k + 1) xs < above k xs
above-taken k [] (i, inside, read) = absurd (omega arith)
above-taken k (x ∷ xs) (zero, inside, read) =
    let l : x < k + 1 = omega arith in
    let m : k ≤ x = omega arith in
    rw (lt-ltb x (k + 1) l, le-ltb x k m) (omega (arith, above-more k xs))
above-taken k (x ∷ xs) (suc i, inside, read) =
    let rest = above-taken k xs (i, omega arith, read) in
    ⊎_elim
    (λ (l : x < k + 1). ⊎_elim
    (λ (m : x < k). rw (lt-ltb x (k + 1) l, lt-ltb x k m) (omega (arith, rest)))
    (λ (m : k ≤ x). rw (lt-ltb x (k + 1) l, le-ltb x k m) (omega (arith, rest)))
    (cases_lt x k))
    (λ (l : k + 1 ≤ x). let m : k ≤ x = omega arith in rw (le-ltb x (k + 1) l, le-ltb x k m) (omega (arith, rest)))
    (cases_lt x (k + 1))

above-fits : (gap k : ℕ) (xs : List ℕ) → ((j : ℕ) → k ≤ j → j < k + gap → Contains xs j) → gap ≤ above k xs
above-fits zero k xs taken = omega arith
above-fits (suc gap) k xs taken =
    let here = above-taken k xs (taken k (omega arith) (omega arith)) in
    let rest = above-fits gap (k + 1) xs (λ j low high. taken j (omega (arith, low)) (omega (arith, high))) in
    omega (arith, here, rest)

pub few_taken : (c : ℕ) (xs : List ℕ) → ((j : ℕ) → 1 ≤ j → j < c → Contains xs j) → c ≤ length xs + 1
few_taken zero xs taken = omega arith
few_taken (suc c) xs taken =
    let fits = above-fits c 1 xs (λ j low high. taken j low (omega (arith, high))) in
    omega (arith, fits, above-le 1 xs)
