-- The numbers of a range that pass a test.
use Rattle.std.proofs.Common.{◌≡◌, ◌≢◌, ℕ, zero, suc, ◌+◌, ◌-◌, ◌<◌, ◌≤◌, Bool, true, false, if◌then◌else◌, Some, List, [], ◌∷◌, ◌++◌, append-nil, map, slice_get, slice_index_or, refl, sym, ◌∙◌, ap, subst, ⊎_elim, arith}
use Rattle.std.specs.List.{All}
use Rattle.std.specs.Option.{option_map}
use Rattle.std.proofs.lemmas.Bool.{cases_Bool, cases_eq}
use Rattle.std.proofs.lemmas.Option.{get_or_from_slice_get, slice_get-get_or, slice_get-map, slice_get_within}
use Rattle.gl_base.specs.declared.numbers.Vertex.{Vertex}
use Rattle.full_cluster.specs.Inner.Ways.{passing}

pub passing-head : (test : ℕ → Bool) (k many u : ℕ) (rest : List ℕ) → passing test k many ≡ u ∷ rest → (k ≤ u) × (u < k + many) × (test u ≡ true) × ((c : ℕ) → k ≤ c → c < u → test c ≡ false) × (rest ≡ passing test (u + 1) (k + many - (u + 1)))
passing-head test k zero u rest is = cc
passing-head test k (suc many) u rest is = ⊎_elim
    (λ (yes : test k ≡ true).
    let some : k ∷ passing test (k + 1) many ≡ u ∷ rest = rw yes at is in
    let at : k ≡ u = cc in
    let tail : passing test (k + 1) many ≡ rest = cc in
    let n : k + suc many - (u + 1) ≡ many = omega arith in (
      omega arith,
      omega arith,
      subst (λ (j : ℕ). test j ≡ true) at yes,
      (λ c low high. absurd (omega arith)),
      rw (n, ← at) (sym tail),
    ))
    (λ (passed : test k ≡ false).
    let later : passing test (k + 1) many ≡ u ∷ rest = rw passed at is in
    let h = passing-head test (k + 1) many u rest later in
    let n : k + 1 + many - (u + 1) ≡ k + suc many - (u + 1) = omega arith in (
      omega (arith, h.0),
      omega (arith, h.1),
      h.2,
      (λ c low high. ⊎_elim
          (λ (at : c ≡ k). subst (λ (j : ℕ). test j ≡ false) (sym at) passed)
          (λ (off : c ≢ k). h.3 c (omega arith) high)
          (cases_eq c k)),
      subst (λ (m : ℕ). rest ≡ passing test (u + 1) m) n h.4,
    ))
    (cases_Bool (test k))

pub passing-append : (test : ℕ → Bool) (k m n : ℕ) → passing test k (m + n) ≡ passing test k m ++ passing test (k + m) n
passing-append test k zero n =
    let e : 0 + n ≡ n = omega arith in
    let f : k + 0 ≡ k = omega arith in
    rw (e, f) refl
passing-append test k (suc m) n =
    let e : suc m + n ≡ suc (m + n) = omega arith in
    let f : k + suc m ≡ k + 1 + m = omega arith in
    let later = passing-append test (k + 1) m n in
    rw (e, f) (⊎_elim
    (λ (yes : test k ≡ true). rw yes (ap (λ (xs : List ℕ). k ∷ xs) later))
    (λ (passed : test k ≡ false). rw passed later)
    (cases_Bool (test k)))

pub passing-none : (test : ℕ → Bool) (k many : ℕ) → ((c : ℕ) → k ≤ c → c < k + many → test c ≡ false) → passing test k many ≡ []
passing-none test k zero none = refl
passing-none test k (suc many) none =
    let here = none k (omega arith) (omega arith) in
    rw here (passing-none test (k + 1) many (λ c low high. none c (omega arith) (omega arith)))

pub passing-nil : (test : ℕ → Bool) (k many : ℕ) → passing test k many ≡ [] → (c : ℕ) → k ≤ c → c < k + many → test c ≡ false
passing-nil test k zero is c low high = absurd (omega arith)
passing-nil test k (suc many) is c low high = ⊎_elim
    (λ (yes : test k ≡ true). let some : k ∷ passing test (k + 1) many ≡ [] = rw yes at is in cc)
    (λ (passed : test k ≡ false).
    let later : passing test (k + 1) many ≡ [] = rw passed at is in
    ⊎_elim
    (λ (at : c ≡ k). subst (λ (j : ℕ). test j ≡ false) (sym at) passed)
    (λ (off : c ≢ k). passing-nil test (k + 1) many later c (omega arith) (omega arith))
    (cases_eq c k))
    (cases_Bool (test k))

-- one number more, where it passes
pub passing-more : (test : ℕ → Bool) (k : ℕ) → passing test 0 (k + 1) ≡ passing test 0 k ++ (if test k then k ∷ [] else [])
passing-more test k =
    let e : 0 + k ≡ k = omega arith in
    passing-append test 0 k 1 ∙ (rw e refl)

-- of a range without neighbours v alone may pass
pub passing_one : (test : ℕ → Bool) (v k many : ℕ) → ((c : ℕ) → k ≤ c → c < k + many → c ≢ v → test c ≡ false) → k ≤ v → v < k + many → passing test k many ≡ (if test v then v ∷ [] else [])
passing_one test v k many none low high =
    let before : ℕ = v - k in
    let after : ℕ = k + many - (v + 1) in
    let all : many ≡ before + (1 + after) = omega arith in
    let at : k + before ≡ v = omega arith in
    let first : passing test k before ≡ [] = passing-none test k before (λ c from to. none c from (omega arith) (omega arith)) in
    let last : passing test (v + 1) after ≡ [] = passing-none test (v + 1) after (λ c from to. none c (omega arith) (omega arith) (omega arith)) in
    ap (passing test k) all
    ∙ passing-append test k before (1 + after)
    ∙ ap (λ (xs : List ℕ). xs ++ passing test (k + before) (1 + after)) first
    ∙ ap (λ (j : ℕ). passing test j (1 + after)) at
    ∙ passing-append test v 1 after
    ∙ ap (λ (xs : List ℕ). (if test v then v ∷ [] else []) ++ xs) last
    ∙ append-nil (if test v then v ∷ [] else [])

passing-within : (test : ℕ → Bool) (k many i u : ℕ) → slice_get (passing test k many) i ≡ Some u → u < k + many
passing-within test k zero zero u at = cc
passing-within test k zero (suc i) u at = cc
passing-within test k (suc many) zero u at = ⊎_elim
    (λ (yes : test k ≡ true). let one : Some k ≡ Some u = rw yes at at in let is : k ≡ u = cc in omega (arith, is))
    (λ (passed : test k ≡ false).
    let later : slice_get (passing test (k + 1) many) zero ≡ Some u = rw passed at at in
    let below = passing-within test (k + 1) many zero u later in
    omega (arith, below))
    (cases_Bool (test k))
passing-within test k (suc many) (suc i) u at = ⊎_elim
    (λ (yes : test k ≡ true).
    let later : slice_get (passing test (k + 1) many) i ≡ Some u = rw yes at at in
    let below = passing-within test (k + 1) many i u later in
    omega (arith, below))
    (λ (passed : test k ≡ false).
    let later : slice_get (passing test (k + 1) many) (suc i) ≡ Some u = rw passed at at in
    let below = passing-within test (k + 1) many (suc i) u later in
    omega (arith, below))
    (cases_Bool (test k))

-- what passes is of the range
pub all_below : {T : Type 0} (f : T → ℕ) (test : ℕ → Bool) (many : ℕ) (list : List T) → map f list ≡ passing test 0 many → All (λ x. f x < many) list
all_below f test many list is = λ i d inside.
    let at : slice_get (passing test 0 many) i ≡ Some (f (slice_index_or list i d)) =
    ap (λ (xs : List ℕ). slice_get xs i) (sym is)
    ∙ slice_get-map f list i
    ∙ ap (option_map f) (slice_get-get_or list i d inside) in
    let below = passing-within test 0 many i (f (slice_index_or list i d)) at in
    omega (arith, below)

-- the first of them is so
pub first_below : (part : List Vertex) (many : ℕ) (y : Vertex) → All (λ x. x.0 < many) part → slice_get part 0 ≡ Some y → y.0 < many
first_below part many y all at = subst (λ (x : Vertex). x.0 < many) (get_or_from_slice_get part 0 y y at) (all 0 y (slice_get_within part 0 y at))
