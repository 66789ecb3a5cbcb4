-- What one more number, an appended list and another order do to a fold.
use Rattle.std.proofs.Common.{◌≡◌, ℕ, suc, ◌+◌, ◌*◌, ◌<◌, ◌≤◌, Bool, true, false, not, cond, nat_eq, max, List, [], ◌∷◌, ◌++◌, length, take, get_or, length-append, length-take, add-zero, refl, sym, ap, subst, ◌∙◌, arith, zero-add, le_trans, inl, inr}
use Rattle.std.specs.Prelude.{sum, sum_by, All, Contains}
use Rattle.std.specs.List.Sorted.{IsPermutation}
use Rattle.std.proofs.Math.Nat.{max_comm, max-zero, le_antisymm, mul-le-mul_right}
use Rattle.std.proofs.lemmas.Bool.{ne_eqb}
use Rattle.std.proofs.lemmas.Bool.Decides.{eqb_tells}
use Rattle.std.proofs.lemmas.List.{take_more}
use Rattle.std.proofs.lemmas.List.Elements.{filter-append, All-from_get_or, All-take, All-weaker}
use Rattle.std.proofs.lemmas.List.Recursion.{is_sum_by, max_bounds, max_least}
use Rattle.std.proofs.lemmas.List.Sorted.{All-permutation, IsPermutation-sym, sum_by-IsPermutation}
use Rattle.std.proofs.lemmas.List.Sums.{sum_by-append, sum_by-cons, length-filter, count_by-le-length, sum_by-le}
use Rattle.gl_base.specs.declared.limits.TheConstants.{INF}
use Rattle.graph_text.specs.declared.sync_folds.folds.Fold.{Fold}
use Rattle.graph_text.specs.sync_folds.Folds.{reached_of, greatest_of, fold_of, merged}

-- whether a number is reached
abbrev is_reached : ℕ → Bool
is_reached x = not (nat_eq x INF)

-- what a number adds to the sum
abbrev share : ℕ → ℕ
share x = cond (is_reached x) x 0

zero-max : (n : ℕ) → max 0 n ≡ n
zero-max n = max_comm 0 n ∙ max-zero n

max_assoc : (a b c : ℕ) → max (max a b) c ≡ max a (max b c)
max_assoc a b c = omega arith

pub greatest-append : (xs ys : List ℕ) → greatest_of (xs ++ ys) ≡ max (greatest_of xs) (greatest_of ys)
greatest-append [] ys = sym (zero-max (greatest_of ys))
greatest-append (x ∷ xs) ys = ap (max x) (greatest-append xs ys) ∙ sym (max_assoc x (greatest_of xs) (greatest_of ys))

-- equal parts make equal folds
same-parts : (n m s t x y : ℕ) → n ≡ m → s ≡ t → x ≡ y → ◌≡◌ {A = Fold} (record { reached = n; sum = s; max = x }) (record { reached = m; sum = t; max = y })
same-parts n m s t x y p q r = cc

pub fold_of-append : (xs ys : List ℕ) → fold_of (xs ++ ys) ≡ merged (fold_of xs) (fold_of ys)
fold_of-append xs ys =
    let e = filter-append is_reached xs ys in
    let r = reached_of xs in
    let t = reached_of ys in
    same-parts _ _ _ _ _ _ (ap length e ∙ length-append r t) (ap sum e ∙ sum_by-append (λ x. x) r t) (ap greatest_of e ∙ greatest-append r t)

-- one more number
pub fold_of-more : (xs : List ℕ) (i : ℕ) → i < length xs → fold_of (take (i + 1) xs) ≡ merged (fold_of (take i xs)) (fold_of (get_or xs i 0 ∷ []))
fold_of-more xs i inside = ap fold_of (take_more xs i 0 inside) ∙ fold_of-append (take i xs) (get_or xs i 0 ∷ [])

-- the fold of one number
one-reached : (x : ℕ) → (x ≡ INF → ⊥) → fold_of (x ∷ []) ≡ record { reached = 1; sum = x; max = x }
one-reached x h =
    let e : nat_eq x INF ≡ false = ne_eqb x INF h in
    rw e (same-parts _ _ _ _ _ _ refl (zero-add x) (max-zero x))

merged-none : (f : Fold) → merged f (fold_of (INF ∷ [])) ≡ f
merged-none f = same-parts _ _ _ _ _ _ (add-zero f.reached) (add-zero f.sum) (max-zero f.max)

-- the number at a place is reached
pub fold_of-reached : (xs : List ℕ) (i x y : ℕ) (f : Fold) → i < length xs → (get_or xs i 0 ≡ INF → ⊥) → x ≡ get_or xs i 0 → y ≡ max f.max (get_or xs i 0) → f ≡ fold_of (take i xs)
    → ◌≡◌ {A = Fold} (record { reached = f.reached + 1; sum = f.sum + x; max = y }) (fold_of (take (i + 1) xs))
fold_of-reached xs i x y f inside h e m p =
    let z = get_or xs i 0 in
    same-parts _ _ _ _ _ _ refl (ap (λ n. f.sum + n) e) m
    ∙ ap (merged f) (sym (one-reached z h)) ∙ ap (λ a. merged a (fold_of (z ∷ []))) p ∙ sym (fold_of-more xs i inside)

-- the number at a place is INF
pub fold_of-passed : (xs : List ℕ) (i : ℕ) (f : Fold) → i < length xs → get_or xs i 0 ≡ INF → f ≡ fold_of (take i xs) → f ≡ fold_of (take (i + 1) xs)
fold_of-passed xs i f inside h p =
    p ∙ sym (merged-none (fold_of (take i xs))) ∙ ap (λ y. merged (fold_of (take i xs)) (fold_of (y ∷ []))) (sym h) ∙ sym (fold_of-more xs i inside)

kept-sum : (b : Bool) (x : ℕ) (l : List ℕ) → sum (cond b (x ∷ l) l) ≡ cond b x 0 + sum l
kept-sum true x l = sum_by-cons (λ y. y) x l
kept-sum false x l = sym (zero-add (sum l))

kept-greatest : (b : Bool) (x : ℕ) (l : List ℕ) → greatest_of (cond b (x ∷ l) l) ≡ max (cond b x 0) (greatest_of l)
kept-greatest true x l = refl
kept-greatest false x l = sym (zero-max (greatest_of l))

-- the sum of the reached numbers, over all numbers
sum-reached : (xs : List ℕ) → sum (reached_of xs) ≡ sum_by share xs
sum-reached = is_sum_by (λ l. sum (reached_of l)) share refl (λ x l. kept-sum (is_reached x) x (reached_of l))

-- no more numbers are reached than there are
pub reached-le-length : (xs : List ℕ) → (fold_of xs).reached ≤ length xs
reached-le-length xs = omega (arith, length-filter is_reached xs, count_by-le-length is_reached xs)

pub reached-le : (xs : List ℕ) (i : ℕ) → (fold_of (take i xs)).reached ≤ i
reached-le xs i = omega (arith, reached-le-length (take i xs), length-take i xs)

share-le : (x : ℕ) → share x ≤ x
share-le x = elim (is_reached x) as (λ b. cond b x 0 ≤ x) [ true ↦ omega arith | false ↦ omega arith ]

-- a sum of numbers up to m is at most m for each of them
pub sum-le-length : (xs : List ℕ) (m : ℕ) → All (λ x. x ≤ m) xs → (fold_of xs).sum ≤ length xs * m
sum-le-length xs m small =
    let each : All (λ x. share x ≤ m) xs = All-weaker (λ x. x ≤ m) (λ x. share x ≤ m) (λ x le. le_trans (share-le x) le) xs small in
    rw (sum-reached xs) (sum_by-le share m xs each)

pub sum-le : (xs : List ℕ) (i m : ℕ) → ((k : ℕ) → get_or xs k 0 ≤ m) → (fold_of (take i xs)).sum ≤ i * m
sum-le xs i m bound =
    let small = All-from_get_or (λ x. x ≤ m) xs 0 (λ k inside. bound k) in
    let fewer : length (take i xs) * m ≤ i * m = mul-le-mul_right m (omega (arith, length-take i xs)) in
    le_trans (sum-le-length (take i xs) m (All-take (λ x. x ≤ m) i xs small)) fewer

greatest-permutation : (xs ys : List ℕ) → IsPermutation xs ys → greatest_of (reached_of ys) ≤ greatest_of (reached_of xs)
greatest-permutation xs ys p =
    let F = λ (l : List ℕ). greatest_of (reached_of l) in
    let step : (x : ℕ) (l : List ℕ) → greatest_of (reached_of (x ∷ l)) ≡ max (share x) (greatest_of (reached_of l)) = λ x l. kept-greatest (is_reached x) x (reached_of l) in
    let bounds : All (λ x. share x ≤ greatest_of (reached_of xs)) xs = λ k d inside. max_bounds F share refl step xs k d inside in
    max_least F share refl step ys 0 (greatest_of (reached_of xs)) (λ k inside. All-permutation (λ x. share x ≤ greatest_of (reached_of xs)) xs ys p bounds k 0 inside)

pub fold_of-permutation : (xs ys : List ℕ) → IsPermutation xs ys → fold_of xs ≡ fold_of ys
fold_of-permutation xs ys p =
    let back = IsPermutation-sym xs ys p in
    same-parts _ _ _ _ _ _
    (length-filter is_reached xs ∙ sum_by-IsPermutation _ ys xs back ∙ sym (length-filter is_reached ys))
    (sum-reached xs ∙ sum_by-IsPermutation share ys xs back ∙ sym (sum-reached ys))
    (le_antisymm (greatest-permutation ys xs back) (greatest-permutation xs ys p))

-- the greatest number bounds them all, and is one of them where it is above 0
pub greatest-bounds : (xs : List ℕ) → All (λ x. x ≤ greatest_of xs) xs
greatest-bounds xs = λ k d inside. max_bounds greatest_of (λ x. x) refl (λ x l. refl) xs k d inside

Contains-later : (x y : ℕ) (xs : List ℕ) → Contains xs y → Contains (x ∷ xs) y
Contains-later x y xs h = (suc h.0, omega (arith, h.1), h.2)

pub greatest-among : (xs : List ℕ) → 0 < greatest_of xs → Contains xs (greatest_of xs)
greatest-among [] h = absurd (omega arith)
greatest-among (x ∷ xs) h =
    elim (eqb_tells (max x (greatest_of xs)) x) [
      | inl p ↦ (0, omega arith, sym p.1)
      | inr p ↦
          let e : max x (greatest_of xs) ≡ greatest_of xs = omega (arith, p.1) in
          subst (Contains (x ∷ xs)) (sym e) (Contains-later x (greatest_of xs) xs (greatest-among xs (omega arith)))
    ]
