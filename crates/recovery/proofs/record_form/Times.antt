-- How often numbers stand in a list, and how long the list is by that.
use Rattle.std.proofs.Common.{◌≡◌, ◌∙◌, ℕ, zero, suc, ◌+◌, ◌<◌, ◌≤◌, ◌==◌, if◌then◌else◌, Bool, true, false, List, [], ◌∷◌, ◌++◌, length, slice_index, refl, sym, ap, ap₂, subst, ⊎_elim, arith}
use Rattle.std.specs.Prelude.{⊤, nat_eq, ◌||◌}
use Rattle.std.specs.List.{AllByRecursion, list_any}
use Rattle.std.specs.List.Sorted.{IsStrictlyIncreasing}
use Rattle.std.proofs.lemmas.Bool.{cases_eq, eq-eqb, ne_eqb}

-- how often k stands in the list
abbrev pub times : ℕ → List ℕ → ℕ
times k [] = 0
times k (x ∷ xs) = (if k == x then 1 else 0) + times k xs

grouped : (a b c : ℕ) → a + (b + c) ≡ (a + b) + c
grouped a b c = omega arith

pub times-append : (k : ℕ) (xs ys : List ℕ) → times k (xs ++ ys) ≡ times k xs + times k ys
times-append k [] ys = from_zero (times k ys)
  where
    from_zero : (n : ℕ) → n ≡ 0 + n
    from_zero n = omega arith
times-append k (x ∷ xs) ys = ap (λ (n : ℕ). (if k == x then 1 else 0) + n) (times-append k xs ys) ∙ grouped (if k == x then 1 else 0) (times k xs) (times k ys)

-- what stands nowhere is not found
pub not_found : (k : ℕ) (xs : List ℕ) → times k xs ≡ 0 → list_any (nat_eq k) xs ≡ false
not_found k [] none = refl
not_found k (x ∷ xs) none = step (k == x) (times k xs) (list_any (nat_eq k) xs) none (not_found k xs)
  where
    step : (here : Bool) (n : ℕ) (rest : Bool) → (if here then 1 else 0) + n ≡ 0 → (n ≡ 0 → rest ≡ false) → (here || rest) ≡ false
    step true n rest none others = absurd (omega arith)
    step false n rest none others = others (omega arith)

first_stands : (x : ℕ) (xs : List ℕ) → 1 ≤ times x (x ∷ xs)
first_stands x xs = rw (eq-eqb x x refl) (omega arith)

also_stands : (one n : ℕ) → 1 ≤ n → 1 ≤ one + n
also_stands one n some = omega arith

-- what holds of all that stands there holds of each
pub each_by_times : (P : ℕ → Type 0) (xs : List ℕ) → ((k : ℕ) → 1 ≤ times k xs → P k) → AllByRecursion P xs
each_by_times P [] has = tt
each_by_times P (x ∷ xs) has = (has x (first_stands x xs), each_by_times P xs (λ k some. has k (also_stands (if k == x then 1 else 0) (times k xs) some)))

-- ---- sums

abbrev sum_below : ℕ → (ℕ → ℕ) → ℕ
sum_below zero f = 0
sum_below (suc n) f = sum_below n f + f n

crossed : (s t a b : ℕ) → (s + t) + (a + b) ≡ (s + a) + (t + b)
crossed s t a b = omega arith

sum_plus : (n : ℕ) (f g : ℕ → ℕ) → sum_below n (λ k. f k + g k) ≡ sum_below n f + sum_below n g
sum_plus zero f g = refl
sum_plus (suc n) f g = ap (λ (s : ℕ). s + (f n + g n)) (sum_plus n f g) ∙ crossed (sum_below n f) (sum_below n g) (f n) (g n)

sum_none : (n : ℕ) → sum_below n (λ k. 0) ≡ 0
sum_none zero = refl
sum_none (suc n) = plus_none (sum_below n (λ k. 0)) (sum_none n)
  where
    plus_none : (s : ℕ) → s ≡ 0 → s + 0 ≡ 0
    plus_none s is = omega arith

one_more : (s n x : ℕ) → s ≡ n → x ≡ 1 → s + x ≡ suc n
one_more s n x sum one = omega arith

sum_ones : (n : ℕ) (f : ℕ → ℕ) → ((k : ℕ) → k < n → f k ≡ 1) → sum_below n f ≡ n
sum_ones zero f ones = refl
sum_ones (suc n) f ones = one_more (sum_below n f) n (f n) (sum_ones n f (λ k low. ones k (omega arith))) (ones n (omega arith))

differ : (n x : ℕ) → n < x → n ≡ x → ⊥
differ n x low is = omega arith

sum_past : (n x : ℕ) → n ≤ x → sum_below n (λ k. if k == x then 1 else 0) ≡ 0
sum_past zero x low = refl
sum_past (suc n) x low = rw (ne_eqb n x (differ n x (omega arith))) (plus_none (sum_below n (λ k. if k == x then 1 else 0)) (sum_past n x (omega arith)))
  where
    plus_none : (s : ℕ) → s ≡ 0 → s + 0 ≡ 0
    plus_none s is = omega arith

sum_at : (n x : ℕ) → x < n → sum_below n (λ k. if k == x then 1 else 0) ≡ 1
sum_at zero x low = absurd (omega arith)
sum_at (suc n) x low =
    ⊎_elim
    (λ (here : n ≡ x). rw (eq-eqb n x here) (last_one (sum_below n (λ k. if k == x then 1 else 0)) (sum_past n x (omega (arith, here)))))
    (λ (off : n ≡ x → ⊥). rw (ne_eqb n x off) (plus_none (sum_below n (λ k. if k == x then 1 else 0)) (sum_at n x (below n x low off))))
    (cases_eq n x)
  where
    last_one : (s : ℕ) → s ≡ 0 → s + 1 ≡ 1
    last_one s is = omega arith

    plus_none : (s : ℕ) → s ≡ 1 → s + 0 ≡ 1
    plus_none s is = omega arith

    below : (n x : ℕ) → x < suc n → (n ≡ x → ⊥) → x < n
    below n x low off = ⊎_elim (λ (here : n ≡ x). absurd (off here)) (λ (there : n ≡ x → ⊥). less n x low there) (cases_eq n x)
      where
        less : (n x : ℕ) → x < suc n → (n ≡ x → ⊥) → x < n
        less n x low off = omega arith

counted : (n : ℕ) (xs : List ℕ) → AllByRecursion (λ k. k < n) xs → sum_below n (λ k. times k xs) ≡ length xs
counted n [] low = sum_none n
counted n (x ∷ xs) low =
    sum_plus n (λ k. if k == x then 1 else 0) (λ k. times k xs)
    ∙ ap₂ (λ (a b : ℕ). a + b) (sum_at n x low.0) (counted n xs low.1)
    ∙ next (length xs)
  where
    next : (m : ℕ) → 1 + m ≡ suc m
    next m = omega arith

-- a list in which each number below n stands once, and no other, has n numbers
pub long_is : (n : ℕ) (xs : List ℕ) → AllByRecursion (λ k. k < n) xs → ((k : ℕ) → k < n → times k xs ≡ 1) → length xs ≡ n
long_is n xs low once = sym (counted n xs low) ∙ sum_ones n (λ k. times k xs) once

-- ---- numbers that rise

-- each is above the one before it, and the first not below this one
abbrev pub RiseFrom : ℕ → List ℕ → Type 0
RiseFrom least [] = ⊤
RiseFrom least (x ∷ xs) = (least ≤ x) × RiseFrom (x + 1) xs

tail_up : (x : ℕ) (xs : List ℕ) → IsStrictlyIncreasing (x ∷ xs) → IsStrictlyIncreasing xs
tail_up x xs up = λ k h.
    let next : suc k + 1 ≡ suc (k + 1) = omega arith in
    subst (λ (j : ℕ). slice_index xs k < slice_index (x ∷ xs) j) next (up (suc k) (omega arith))

rise_behind : (x : ℕ) (xs : List ℕ) → IsStrictlyIncreasing (x ∷ xs) → RiseFrom (x + 1) xs
rise_behind x [] up = tt
rise_behind x (y ∷ ys) up =
    let first : x < y = up 0 (omega arith) in
    (omega arith, rise_behind y ys (tail_up x (y ∷ ys) up))

pub they_rise : (xs : List ℕ) → IsStrictlyIncreasing xs → RiseFrom 0 xs
they_rise [] up = tt
they_rise (x ∷ xs) up = (omega arith, rise_behind x xs up)

apart : (k x least : ℕ) → k < least → least ≤ x → k ≡ x → ⊥
apart k x least low up is = omega arith

none_below : (least : ℕ) (xs : List ℕ) (k : ℕ) → RiseFrom least xs → k < least → times k xs ≡ 0
none_below least [] k rise low = refl
none_below least (x ∷ xs) k rise low =
    rw (ne_eqb k x (apart k x least low rise.0)) (zero_plus (times k xs) (none_below (x + 1) xs k rise.1 (above k x least low rise.0)))
  where
    zero_plus : (n : ℕ) → n ≡ 0 → 0 + n ≡ 0
    zero_plus n is = omega arith

    above : (k x least : ℕ) → k < least → least ≤ x → k < x + 1
    above k x least low up = omega arith

-- none stands twice
pub once_most : (least : ℕ) (xs : List ℕ) (k : ℕ) → RiseFrom least xs → times k xs ≤ 1
once_most least [] k rise = omega arith
once_most least (x ∷ xs) k rise =
    ⊎_elim
    (λ (here : k ≡ x). rw (eq-eqb k x here) (just_one (times k xs) (none_below (x + 1) xs k rise.1 (below_next k x here))))
    (λ (off : k ≡ x → ⊥). rw (ne_eqb k x off) (no_more (times k xs) (once_most (x + 1) xs k rise.1)))
    (cases_eq k x)
  where
    below_next : (k x : ℕ) → k ≡ x → k < x + 1
    below_next k x is = omega arith

    just_one : (n : ℕ) → n ≡ 0 → 1 + n ≤ 1
    just_one n is = omega arith

    no_more : (n : ℕ) → n ≤ 1 → 0 + n ≤ 1
    no_more n low = omega arith
