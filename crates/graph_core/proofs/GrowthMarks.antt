-- Lists of vertices that grow, with their marks.
use Rattle.std.proofs.Common.{◌≡◌, ℕ, ◌+◌, ◌<◌, inl, inr, Bool, true, false, not, cond, eqb, ◌||◌, List, [], ◌∷◌, ◌++◌, length, get_or, set, take, All, AllPairs, refl, sym, ap, ◌∙◌, subst, arith, append_assoc, length-set, get_or-set_same, get_or-set_other, get_or-take}
use Rattle.std.specs.Cmp.{IsEquivalence}
use Rattle.std.specs.List.{filter, list_any, AllByRecursion}
use Rattle.std.proofs.lemmas.Bool.{cases_eq, eq-eqb, ne_eqb, eqb-true, cond_both}
use Rattle.std.proofs.lemmas.List.{take_more, length_push, length-take, get_or_default}
use Rattle.std.proofs.lemmas.List.Elements.{All-push, filter-append, recursion_from_All}
use Rattle.std.proofs.lemmas.List.Sums.{sum_by-set}
use Rattle.std.proofs.lemmas.List.Folds.{list_any-append}
use Rattle.std.proofs.lemmas.Map.Keys.{IsDistinct-push}
use Rattle.graph_core.proofs.EdgeLemmas.{eqb_flips}
use Rattle.graph_core.specs.Growth.{is_listed, unlisted}
use Rattle.graph_core.specs.Inner.GrowthMarks.{AreMarks}

or_false : (b : Bool) → (b || false) ≡ b
or_false true = refl
or_false false = refl

or_true : (b : Bool) → (b || true) ≡ true
or_true true = refl
or_true false = refl

-- a list with one vertex more
pub is_listed-push : (listed : List ℕ) (v k : ℕ) → is_listed (listed ++ v ∷ []) k ≡ (is_listed listed k || eqb k v)
is_listed-push listed v k = list_any-append (eqb k) listed (v ∷ []) ∙ ap (λ (b : Bool). is_listed listed k || b) (or_false (eqb k v))

abbrev mark : Bool → ℕ
mark marked = cond marked 1 0

nat_equivalence : IsEquivalence eqb
nat_equivalence =
    record {
      refl = λ x. eq-eqb x x refl;
      symm = eqb_flips;
      congr = λ x y z e. ap (λ (a : ℕ). eqb a z) (eqb-true x y e);
    }

-- the next vertex is listed and marked
pub AreMarks-more : (listed : List ℕ) (marks : List Bool) (v : ℕ) → AreMarks listed marks → v < length marks → get_or marks v false ≡ false → AreMarks (listed ++ v ∷ []) (set marks v true)
AreMarks-more listed marks v are inside new =
    let len : length (set marks v true) ≡ length marks = length-set marks v true in
    record {
      same = λ k h. elim (cases_eq k v) [
        | inl e ↦
            ap (λ (j : ℕ). get_or (set marks v true) j false) e ∙ get_or-set_same marks v true false inside
            ∙ sym (is_listed-push listed v k ∙ ap (λ (b : Bool). is_listed listed k || b) (eq-eqb k v e) ∙ or_true (is_listed listed k))
        | inr n ↦
            get_or-set_other marks v k true false n ∙ are.same k (omega arith)
            ∙ sym (is_listed-push listed v k ∙ ap (λ (b : Bool). is_listed listed k || b) (ne_eqb k v n) ∙ or_false (is_listed listed k))
      ];
      below = subst (λ (n : ℕ). All (λ u. u < n) (listed ++ v ∷ [])) (sym len) (All-push (λ u. u < length marks) listed v are.below inside);
      apart = IsDistinct-push nat_equivalence listed v are.apart (sym (are.same v inside) ∙ new);
      count =
          let grown = sum_by-set mark marks v true false inside in
          let was : mark (get_or marks v false) ≡ 0 = ap mark new in
          omega (arith, grown, was, are.count, length_push listed v);
    }

-- a mark stays
pub kept_more : (marks : List Bool) (v k : ℕ) → v < length marks → get_or marks k false ≡ true → get_or (set marks v true) k false ≡ true
kept_more marks v k inside marked = elim (cases_eq k v) [
  | inl e ↦ ap (λ (j : ℕ). get_or (set marks v true) j false) e ∙ get_or-set_same marks v true false inside
  | inr n ↦ get_or-set_other marks v k true false n ∙ marked
]

-- one vertex is listed where it was not
pub one_unlisted : (listed : List ℕ) (marks : List Bool) (v : ℕ) (b : Bool) → AreMarks listed marks → v < length marks → get_or marks v false ≡ b → unlisted listed (v ∷ []) ≡ cond (not b) (v ∷ []) []
one_unlisted listed marks v b are inside is = ap (λ (c : Bool). cond (not c) (v ∷ []) []) (sym (are.same v inside) ∙ is)

-- what is below is not among others that pass a test
not_among : (p : ℕ → Bool) (v : ℕ) (xs : List ℕ) → AllByRecursion (λ u. u < v) xs → list_any (eqb v) (filter p xs) ≡ false
not_among p v [] below = refl
not_among p v (x ∷ xs) below =
    cond_both (p x) (x ∷ filter p xs) (filter p xs) (λ ys. list_any (eqb v) ys ≡ false)
    (λ _. ap (λ (b : Bool). b || list_any (eqb v) (filter p xs)) (ne_eqb v x (λ e. omega (arith, below.0))) ∙ not_among p v xs below.1)
    (λ _. not_among p v xs below.1)

-- of ascending vertices, those before one are lower
before_lower : (vertices : List ℕ) (i : ℕ) → AllPairs (λ u v. u < v) vertices → i < length vertices → AllByRecursion (λ u. u < get_or vertices i 0) (take i vertices)
before_lower vertices i ascending inside =
    recursion_from_All (λ u. u < get_or vertices i 0) (take i vertices)
    (λ k d h.
    let before : k < i = omega (arith, length-take i vertices) in
    let here = get_or-take i vertices k d before in
    let same = get_or_default vertices i d 0 inside in
    let less = ascending k i d before inside in
    omega (arith, here, same, less))

-- what is listed so far of some vertices
abbrev pub so_far : List ℕ → List ℕ → ℕ → List ℕ
so_far old vertices i = old ++ unlisted old (take i vertices)

-- a vertex of the vertices is listed where it was
is_listed-so_far : (old vertices : List ℕ) (i : ℕ) → AllPairs (λ u v. u < v) vertices → i < length vertices → is_listed (so_far old vertices i) (get_or vertices i 0) ≡ is_listed old (get_or vertices i 0)
is_listed-so_far old vertices i ascending inside =
    let v : ℕ = get_or vertices i 0 in
    list_any-append (eqb v) old (unlisted old (take i vertices))
    ∙ ap (λ (b : Bool). is_listed old v || b) (not_among (λ u. not (is_listed old u)) v (take i vertices) (before_lower vertices i ascending inside))
    ∙ or_false (is_listed old v)

so_far-more : (old vertices : List ℕ) (i : ℕ) → i < length vertices → so_far old vertices (i + 1) ≡ so_far old vertices i ++ unlisted old (get_or vertices i 0 ∷ [])
so_far-more old vertices i inside =
    ap (λ (vs : List ℕ). old ++ unlisted old vs) (take_more vertices i 0 inside)
    ∙ ap (λ (vs : List ℕ). old ++ vs) (filter-append (λ v. not (is_listed old v)) (take i vertices) (get_or vertices i 0 ∷ []))
    ∙ sym (append_assoc old (unlisted old (take i vertices)) (unlisted old (get_or vertices i 0 ∷ [])))

-- a vertex more
pub so_far-step : (old vertices listed new : List ℕ) (i : ℕ) → AllPairs (λ u v. u < v) vertices → i < length vertices → listed ≡ so_far old vertices i → new ≡ listed ++ unlisted listed (get_or vertices i 0 ∷ []) → new ≡ so_far old vertices (i + 1)
so_far-step old vertices listed new i ascending inside is grown =
    let v : ℕ = get_or vertices i 0 in
    let same : is_listed listed v ≡ is_listed old v = ap (λ (vs : List ℕ). is_listed vs v) is ∙ is_listed-so_far old vertices i ascending inside in
    grown ∙ ap (λ (b : Bool). listed ++ cond (not b) (v ∷ []) []) same
    ∙ ap (λ (vs : List ℕ). vs ++ unlisted old (v ∷ [])) is ∙ sym (so_far-more old vertices i inside)
