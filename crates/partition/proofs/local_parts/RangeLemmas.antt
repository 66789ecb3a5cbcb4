-- Numbers of a range that pass, as lists that are filtered and as lists that are counted out.
use Rattle.std.proofs.Common.{◌≡◌, ℕ, zero, suc, ◌+◌, ◌<◌, ◌≤◌, ◌==◌, ◌&&◌, ◌||◌, ◌++◌, Bool, true, false, not, if◌then◌else◌, cond, List, [], ◌∷◌, length, get_or, map, refl, sym, ap, ◌∙◌, subst, arith, inl, inr, add-one}
use Rattle.std.specs.List.{filter, list_any, range_with_len}
use Rattle.cluster_laws.specs.cluster_core.Ranges.{all_passing}

pub filter_mapped : {X : Type 0} (p : X → Bool) (f : ℕ → X) (xs : List ℕ) → filter p (map f xs) ≡ map f (filter (λ k. p (f k)) xs)
filter_mapped p f [] = refl
filter_mapped {X} p f (x ∷ xs) = here (p (f x)) (filter_mapped p f xs)
  where
    here : (b : Bool) → filter p (map f xs) ≡ map f (filter (λ k. p (f k)) xs) → (if b then f x ∷ filter p (map f xs) else filter p (map f xs)) ≡ map f (if b then x ∷ filter (λ k. p (f k)) xs else filter (λ k. p (f k)) xs)
    here true rest = ap (λ (ys : List X). f x ∷ ys) rest
    here false rest = rest

pub filter_passing : (p r : ℕ → Bool) (k n : ℕ) → ((x : ℕ) → k ≤ x → x < k + n → p x ≡ r x) → filter p (range_with_len k n) ≡ all_passing r k n
unfolding all_passing
filter_passing p r k zero same = refl
filter_passing p r k (suc n) same =
    let rest : filter p (range_with_len (k + 1) n) ≡ all_passing r (suc k) n =
    filter_passing p r (k + 1) n (λ x low high. same x (omega arith) (omega arith)) ∙ ap (λ (j : ℕ). all_passing r j n) (let e : k + 1 ≡ suc k = omega arith in e) in
    ap (λ b. if b then k ∷ filter p (range_with_len (k + 1) n) else filter p (range_with_len (k + 1) n)) (same k (omega arith) (omega arith)) ∙ here (r k) rest
  where
    here : (b : Bool) → filter p (range_with_len (k + 1) n) ≡ all_passing r (suc k) n
        → (if b then k ∷ filter p (range_with_len (k + 1) n) else filter p (range_with_len (k + 1) n)) ≡ (if b then k ∷ all_passing r (suc k) n else all_passing r (suc k) n)
    here true rest = ap (λ (ys : List ℕ). k ∷ ys) rest
    here false rest = rest

-- two filters of a range, one after the other
pub filter_twice : (p q : ℕ → Bool) (xs : List ℕ) → filter p (filter q xs) ≡ filter (λ x. q x && p x) xs
filter_twice p q [] = refl
filter_twice p q (x ∷ xs) = here (q x) (filter_twice p q xs)
  where
    here : (b : Bool) → filter p (filter q xs) ≡ filter (λ y. q y && p y) xs
        → filter p (if b then x ∷ filter q xs else filter q xs) ≡ (if b && p x then x ∷ filter (λ y. q y && p y) xs else filter (λ y. q y && p y) xs)
    here false rest = rest
    here true rest = there (p x)
      where
        there : (d : Bool) → (if d then x ∷ filter p (filter q xs) else filter p (filter q xs)) ≡ (if d then x ∷ filter (λ y. q y && p y) xs else filter (λ y. q y && p y) xs)
        there true = ap (λ (ys : List ℕ). x ∷ ys) rest
        there false = rest
