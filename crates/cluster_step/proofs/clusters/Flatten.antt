-- Rows of equal length, one behind the other.
use Rattle.std.proofs.Common.{List, [], ap, arith, get_or, length, length-append, map, refl, suc, suc-mul, zero, ◌*◌, ◌+◌, ◌++◌, ◌<◌, ◌∙◌, ◌∷◌, ◌≡◌, ◌≤◌, ℕ}
use Rattle.std.proofs.lemmas.Nat.{mul-le}
use Rattle.std.specs.List.{flat_map}
use mathlib.Core.Option.{some}
use lib.ListN.{get_elem?}

-- one row more is there
pub row_left : (counter many width rest : ℕ) → counter < many → counter * width + rest ≡ many * width → width ≤ rest
row_left counter many width rest low all =
    let more : suc counter * width ≤ many * width = mul-le (suc counter) width many width (omega arith) (omega arith) in
    let one : suc counter * width ≡ counter * width + width = suc-mul counter width in
    omega arith

at_left : {A : Type 0} (r s : List A) (j : ℕ) (d : A) → j < length r → get_elem? (r ++ s) j ≡ some (get_or r j d)
at_left [] s j d low = absurd (omega arith)
at_left (x ∷ r) s zero d low = refl
at_left (x ∷ r) s (suc j) d low = at_left r s j d (omega arith)

at_right : {A : Type 0} (r s : List A) (k : ℕ) → get_elem? (r ++ s) (length r + k) ≡ get_elem? s k
at_right [] s k = ap (get_elem? s) (let e : 0 + k ≡ k = omega arith in e)
at_right (x ∷ r) s k = ap (get_elem? (x ∷ (r ++ s))) (let e : suc (length r) + k ≡ suc (length r + k) = omega arith in e) ∙ at_right r s k

-- what stands in the place j of the row i
pub at_flat : {A : Type 0} (n : ℕ) (rows : List (List A)) → ((p : ℕ) → p < length rows → length (get_or rows p []) ≡ n) → (i j : ℕ) → i < length rows → j < n → (d : A)
    → get_elem? (flat_map (λ row. row) rows) (i * n + j) ≡ some (get_or (get_or rows i []) j d)
at_flat n [] long i j low_i low_j d = absurd (omega arith)
at_flat n (r ∷ rows) long zero j low_i low_j d =
    let is : length r ≡ n = long 0 (omega arith) in
    ap (get_elem? (r ++ flat_map (λ row. row) rows)) (let e : 0 * n + j ≡ j = omega arith in e) ∙ at_left r (flat_map (λ row. row) rows) j d (omega arith)
at_flat n (r ∷ rows) long (suc i) j low_i low_j d =
    let is : length r ≡ n = long 0 (omega arith) in
    let one : suc i * n ≡ i * n + n = suc-mul i n in
    let place : suc i * n + j ≡ length r + (i * n + j) = omega arith in
    ap (get_elem? (r ++ flat_map (λ row. row) rows)) place ∙ at_right r (flat_map (λ row. row) rows) (i * n + j)
    ∙ at_flat n rows (λ p low. long (suc p) (omega arith)) i j (omega arith) low_j d

-- rows of rows
pub flat_seen : {X A : Type 0} (f : X → List A) (xs : List X) → flat_map f xs ≡ flat_map (λ row. row) (map f xs)
flat_seen f [] = refl
flat_seen f (x ∷ xs) = ap (λ (ys : List _). f x ++ ys) (flat_seen f xs)

-- how many stand in all
pub flat_long : {A : Type 0} (n : ℕ) (rows : List (List A)) → ((p : ℕ) → p < length rows → length (get_or rows p []) ≡ n) → length (flat_map (λ row. row) rows) ≡ length rows * n
flat_long n [] long = omega arith
flat_long n (r ∷ rows) long =
    let is : length r ≡ n = long 0 (omega arith) in
    let rest : length (flat_map (λ row. row) rows) ≡ length rows * n = flat_long n rows (λ p low. long (suc p) (omega arith)) in
    let one : suc (length rows) * n ≡ length rows * n + n = suc-mul (length rows) n in
    let both : length (r ++ flat_map (λ row. row) rows) ≡ length r + length (flat_map (λ row. row) rows) = length-append r (flat_map (λ row. row) rows) in
    omega arith
