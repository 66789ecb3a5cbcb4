-- Sums over lists that change at one place.
use Rattle.std.proofs.Common.{◌≡◌, ℕ, zero, suc, ◌+◌, ◌<◌, ◌≤◌, ◌≢◌, cond, eqb, List, [], ◌∷◌, ◌++◌, length, set, sum_by, Option, Some, None, sym, refl, ap, ◌∙◌, subst, ⊎_elim, eq-eqb, ne_eqb, arith}
use Rattle.std.proofs.lemmas.List.Sums.{sum_by-cons, sum_by-append}
use mathlib.Core.Logic.{dite}
use mathlib.Core.Option.{some, some-injective, some-ne-none}
use native.Mathlib.Decide.{ℕ_discrete}
use lib.ListN.{get_elem?}
use Rattle.atomic_table.proofs.Lists.{at_set}
use Rattle.link_tables.specs.Rule.{one_when, is_link, times_seated}

module _ {A : Type 0} where
  pub is_there : (l : List A) (i : ℕ) (a : A) → get_elem? l i ≡ some a → i < length l
  is_there [] i a e = absurd (some-ne-none a (sym e))
  is_there (x ∷ xs) zero a e = omega arith
  is_there (x ∷ xs) (suc i) a e = let t = is_there xs i a e in omega arith

  pub in_range : (l : List A) (i : ℕ) → i < length l → (a : A) × (get_elem? l i ≡ some a)
  in_range [] i h = absurd (omega arith)
  in_range (x ∷ xs) zero h = (x, refl)
  in_range (x ∷ xs) (suc i) h = in_range xs i (omega arith)

  -- where all are so, they are with one of them put, if that is so
  pub all_put : (So : A → Type 0) → (l : List A) (i : ℕ) (x : A) → So x → ((k : ℕ) (a : A) → get_elem? l k ≡ some a → So a)
      → (k : ℕ) (a : A) → get_elem? (set l i x) k ≡ some a → So a
  all_put So l i x so all k a at = ⊎_elim (λ t. subst So t.1 so) (λ t. all k a t.1) (at_set l i k x a at)

  module _ (g : A → ℕ) where
    pub total_set : (l : List A) (j : ℕ) (v w : A) → get_elem? l j ≡ some v → sum_by g (set l j w) + g v ≡ sum_by g l + g w
    total_set [] j v w e = absurd (some-ne-none v (sym e))
    total_set (x ∷ xs) zero v w e = omega (arith, ap g (some-injective x v e), sum_by-cons g x xs, sum_by-cons g w xs)
    total_set (x ∷ xs) (suc j) v w e = omega (arith, total_set xs j v w e, sum_by-cons g x xs, sum_by-cons g x (set xs j w))

    pub term_le : (l : List A) (j : ℕ) (v : A) → get_elem? l j ≡ some v → g v ≤ sum_by g l
    term_le [] j v e = absurd (some-ne-none v (sym e))
    term_le (x ∷ xs) zero v e = omega (arith, ap g (some-injective x v e), sum_by-cons g x xs)
    term_le (x ∷ xs) (suc j) v e = omega (arith, term_le xs j v e, sum_by-cons g x xs)

    pub terms_le : (l : List A) (j k : ℕ) (v u : A) → k ≢ j → get_elem? l j ≡ some v → get_elem? l k ≡ some u → g v + g u ≤ sum_by g l
    terms_le [] j k v u n e d = absurd (some-ne-none v (sym e))
    terms_le (x ∷ xs) zero zero v u n e d = absurd (n refl)
    terms_le (x ∷ xs) zero (suc k) v u n e d = omega (arith, ap g (some-injective x v e), term_le xs k u d, sum_by-cons g x xs)
    terms_le (x ∷ xs) (suc j) zero v u n e d = omega (arith, ap g (some-injective x u d), term_le xs j v e, sum_by-cons g x xs)
    terms_le (x ∷ xs) (suc j) (suc k) v u n e d = omega (arith, terms_le xs j k v u (λ h. n (ap suc h)) e d, sum_by-cons g x xs)

    pub term_there : (l : List A) → 0 < sum_by g l → (j : ℕ) × (v : A) × (get_elem? l j ≡ some v) × (0 < g v)
    term_there [] h = absurd (omega arith)
    term_there (x ∷ xs) h = dite (ℕ_discrete (g x) 0)
        (λ e. let t = term_there xs (omega (arith, sum_by-cons g x xs)) in (suc t.0, t.1, t.2, t.3))
        (λ ne. (0, x, refl, omega arith))

-- ---- numbers told apart

pub same_one : (a b : ℕ) → a ≡ b → one_when (eqb a b) ≡ 1
same_one a b e = ap (λ t. cond t 1 0) (eq-eqb a b e)

pub other_none : (a b : ℕ) → a ≢ b → one_when (eqb a b) ≡ 0
other_none a b n = ap (λ t. cond t 1 0) (ne_eqb a b n)

pub one_le : (a b : ℕ) → one_when (eqb a b) ≤ 1
one_le a b = dite (ℕ_discrete a b) (λ e. omega (arith, same_one a b e)) (λ n. omega (arith, other_none a b n))

pub one_same : (a b : ℕ) → 0 < one_when (eqb a b) → a ≡ b
one_same a b h = dite (ℕ_discrete a b) (λ e. e) (λ n. absurd (omega (arith, other_none a b n)))

-- ---- who has a link

module _ {Q : Type 0} where
  pub has_link : (i : ℕ) (q : Q) (link : Option (ℕ × Q)) → link ≡ Some (i, q) → is_link i link ≡ 1
  has_link i q link e = ap (is_link i) e ∙ same_one i i refl

  pub has_other : (i k : ℕ) (q : Q) (link : Option (ℕ × Q)) → link ≡ Some (i, q) → i ≢ k → is_link k link ≡ 0
  has_other i k q link e n = ap (is_link k) e ∙ other_none i k n

  pub has_none : (i : ℕ) (link : Option (ℕ × Q)) → link ≡ None → is_link i link ≡ 0
  has_none i link e = ap (is_link i) e

  pub some_link : (i : ℕ) (link : Option (ℕ × Q)) → 0 < is_link i link → (q : Q) × (link ≡ Some (i, q))
  some_link i None h = absurd (omega arith)
  some_link i (Some x) h = let e : x.0 ≡ i = one_same x.0 i h in (x.1, λ k. Some (e k, x.1))

-- ---- how often a number stands in a list

module _ {P : Type 0} (number_of : P → ℕ) where
  pub times-cons : (p : ℕ) (x : P) (xs : List P) → times_seated number_of p (x ∷ xs) ≡ one_when (eqb (number_of x) p) + times_seated number_of p xs
  times-cons p x xs = sum_by-cons (λ (y : P). one_when (eqb (number_of y) p)) x xs

  pub times-append : (p : ℕ) (xs ys : List P) → times_seated number_of p (xs ++ ys) ≡ times_seated number_of p xs + times_seated number_of p ys
  times-append p xs ys = sum_by-append (λ (y : P). one_when (eqb (number_of y) p)) xs ys

  pub times_at : (p : ℕ) (xs : List P) (i : ℕ) (x : P) → get_elem? xs i ≡ some x → number_of x ≡ p → 0 < times_seated number_of p xs
  times_at p xs i x at e = let t = term_le (λ (y : P). one_when (eqb (number_of y) p)) xs i x at in omega (arith, same_one (number_of x) p e)
