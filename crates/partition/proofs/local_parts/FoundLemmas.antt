-- Numbers of a range that pass, found again.
use Rattle.std.proofs.Common.{◌≡◌, ℕ, zero, suc, ◌+◌, ◌<◌, ◌≤◌, ◌==◌, ◌&&◌, ◌||◌, ◌++◌, Bool, true, false, not, if◌then◌else◌, Option, Some, List, [], ◌∷◌, length, get_or, map, refl, sym, ap, ◌∙◌, subst, All, arith, inl, inr}
use Rattle.std.specs.List.{filter, list_any, range_with_len}
use Rattle.std.proofs.lemmas.Bool.{cases_eq, cases_Bool, eq-eqb, ne_eqb, true≢false}
use Rattle.std.proofs.lemmas.List.Elements.{All-nil, All-cons, All-head, All-tail}
use Rattle.cluster_laws.specs.cluster_core.Ranges.{all_passing, first_passing}
use Rattle.cluster_laws.specs.cluster_core.Scopes.{is_found}

or_true : (b : Bool) → (b || true) ≡ true
or_true true = refl
or_true false = refl

-- x is one of them, and passes another test
pub found_with : (p q : ℕ → Bool) (a n x : ℕ) → a ≤ x → x < a + n → p x ≡ true → q x ≡ true → list_any q (filter p (range_with_len a n)) ≡ true
found_with p q a zero x low high passes holds = absurd (omega arith)
found_with p q a (suc n) x low high passes holds = elim (cases_eq a x) [
  | inl same ↦
      let here : p a ≡ true = ap p same ∙ passes in
      let there : q a ≡ true = ap q same ∙ holds in
      ap (λ b. list_any q (if b then a ∷ filter p (range_with_len (a + 1) n) else filter p (range_with_len (a + 1) n))) here
      ∙ ap (λ b. b || list_any q (filter p (range_with_len (a + 1) n))) there
  | inr other ↦
      later (p a) (found_with p q (a + 1) n x (omega arith) (omega arith) passes holds)
]
  where
    later : (b : Bool) → list_any q (filter p (range_with_len (a + 1) n)) ≡ true → list_any q (if b then a ∷ filter p (range_with_len (a + 1) n) else filter p (range_with_len (a + 1) n)) ≡ true
    later true is = ap (λ b. q a || b) is ∙ or_true (q a)
    later false is = is

-- each of them is in the range and passes
pub record Passes (p : ℕ → Bool) (n x : ℕ) : Type 0 where
  pub low : x < n
  pub is : p x ≡ true

pub passing_all : (p : ℕ → Bool) (a n m : ℕ) → a + n ≤ m → All (Passes p m) (filter p (range_with_len a n))
passing_all p a zero m fits = All-nil (Passes p m)
passing_all p a (suc n) m fits = elim (cases_Bool (p a)) [
  | inl on ↦
      subst (λ b. All (Passes p m) (if b then a ∷ filter p (range_with_len (a + 1) n) else filter p (range_with_len (a + 1) n))) (sym on)
      (All-cons (Passes p m) a (filter p (range_with_len (a + 1) n)) (record { low = omega arith; is = on }) (passing_all p (a + 1) n m (omega arith)))
  | inr off ↦
      subst (λ b. All (Passes p m) (if b then a ∷ filter p (range_with_len (a + 1) n) else filter p (range_with_len (a + 1) n))) (sym off)
      (passing_all p (a + 1) n m (omega arith))
]

pub any_mapped : {X Y : Type 0} (q : Y → Bool) (f : X → Y) (xs : List X) → list_any q (map f xs) ≡ list_any (λ x. q (f x)) xs
any_mapped q f [] = refl
any_mapped q f (x ∷ xs) = ap (λ b. q (f x) || b) (any_mapped q f xs)

-- the same test on all
pub any_same : {X : Type 0} (p q : X → Bool) (xs : List X) → All (λ x. p x ≡ q x) xs → list_any p xs ≡ list_any q xs
any_same p q [] same = refl
any_same {X} p q (x ∷ xs) same =
    ap (λ b. b || list_any p xs) (All-head (λ (y : X). p y ≡ q y) x xs same)
    ∙ ap (λ b. q x || b) (any_same p q xs (All-tail (λ (y : X). p y ≡ q y) x xs same))

pub filter_same : {X : Type 0} (p q : X → Bool) (xs : List X) → All (λ x. p x ≡ q x) xs → filter p xs ≡ filter q xs
filter_same p q [] same = refl
filter_same {X} p q (x ∷ xs) same =
    ap (λ b. if b then x ∷ filter p xs else filter p xs) (All-head (λ (y : X). p y ≡ q y) x xs same)
    ∙ here (q x) (filter_same p q xs (All-tail (λ (y : X). p y ≡ q y) x xs same))
  where
    here : (b : Bool) → filter p xs ≡ filter q xs → (if b then x ∷ filter p xs else filter p xs) ≡ (if b then x ∷ filter q xs else filter q xs)
    here true rest = ap (λ (ys : List X). x ∷ ys) rest
    here false rest = rest

-- two filters that nothing passes both
pub few_both : (p q : ℕ → Bool) (a n : ℕ) → ((x : ℕ) → a ≤ x → x < a + n → p x ≡ true → q x ≡ true → ⊥) → length (filter p (range_with_len a n)) + length (filter q (range_with_len a n)) ≤ n
few_both p q a zero apart = omega arith
few_both p q a (suc n) apart =
    let rest = few_both p q (a + 1) n (λ x low high. apart x (omega arith) (omega arith)) in
    count (p a) (q a) refl refl rest
  where
    count : (b c : Bool) → p a ≡ b → q a ≡ c → length (filter p (range_with_len (a + 1) n)) + length (filter q (range_with_len (a + 1) n)) ≤ n
        → length (if b then a ∷ filter p (range_with_len (a + 1) n) else filter p (range_with_len (a + 1) n)) + length (if c then a ∷ filter q (range_with_len (a + 1) n) else filter q (range_with_len (a + 1) n)) ≤ suc n
    count true true on too rest = absurd (apart a (omega arith) (omega arith) on too)
    count true false on off rest = omega arith
    count false true off on rest = omega arith
    count false false off too rest = omega arith

pub few_passing : {X : Type 0} (p : X → Bool) (xs : List X) → length (filter p xs) ≤ length xs
few_passing p [] = omega arith
few_passing p (x ∷ xs) = count (p x) (few_passing p xs)
  where
    count : (b : Bool) → length (filter p xs) ≤ length xs → length (if b then x ∷ filter p xs else filter p xs) ≤ suc (length xs)
    count true rest = omega arith
    count false rest = omega arith

-- ---- counted out

pub passing_none : (test : ℕ → Bool) (k n : ℕ) → ((x : ℕ) → k ≤ x → x < k + n → test x ≡ false) → all_passing test k n ≡ []
unfolding all_passing
passing_none test k zero none = refl
passing_none test k (suc n) none =
    ap (λ b. if b then k ∷ all_passing test (suc k) n else all_passing test (suc k) n) (none k (omega arith) (omega arith))
    ∙ passing_none test (suc k) n (λ x low high. none x (omega arith) (omega arith))

pub found_first : (test : ℕ → Bool) (k n x : ℕ) → k ≤ x → x < k + n → test x ≡ true → is_found (first_passing test k n) ≡ true
unfolding first_passing
found_first test k zero x low high passes = absurd (omega arith)
found_first test k (suc n) x low high passes = elim (cases_eq k x) [
  | inl same ↦ ap (λ b. is_found (if b then Some k else first_passing test (suc k) n)) (ap test same ∙ passes)
  | inr other ↦ later (test k) (found_first test (suc k) n x (omega arith) (omega arith) passes)
]
  where
    later : (b : Bool) → is_found (first_passing test (suc k) n) ≡ true → is_found (if b then Some k else first_passing test (suc k) n) ≡ true
    later true is = refl
    later false is = is
