-- The order of growth has each vertex, at a place below the number of vertices.
use Rattle.std.proofs.Common.{◌≡◌, ◌≢◌, ℕ, zero, suc, ◌<◌, ◌≤◌, inl, inr, Bool, true, false, not, cond, eqb, List, [], ◌∷◌, ◌++◌, length, get_or, slice_index, take, All, AllPairs, refl, sym, ap, ◌∙◌, subst, arith, append_assoc, append-nil, length-append, zero-add}
use Rattle.std.specs.List.{AllByRecursion, IsDistinct, filter, range_with_len}
use Rattle.std.proofs.lemmas.Bool.{cases_Bool, cases_lt, eqb-true, le-ltb, lt-ltb, not-false, not-true, or_from}
use Rattle.std.proofs.lemmas.Bool.Decides.{Decides-eqb}
use Rattle.std.proofs.lemmas.Cmp.{nat_eq_equiv}
use Rattle.std.proofs.lemmas.List.{get_or_default, length_push}
use Rattle.std.proofs.lemmas.List.Elements.{All-append, All-cons, All-contains, All-filter, All-from_recursion, All-head, All-nil, All-push, filter_passes, recursion_from_All}
use Rattle.std.proofs.lemmas.List.FromFn.{get_or-range_with_len, length-range_with_len}
use Rattle.std.proofs.lemmas.List.Kept.{AllPairs-filter}
use Rattle.std.proofs.lemmas.Map.Keys.{IsDistinct-head, IsDistinct-push, IsDistinct-tail}
use Rattle.std.proofs.lemmas.Map.Made.{IsDistinct-from_AllPairs}
use Rattle.std.proofs.lemmas.Map.Steps.{le-length_from_below, length-le_from_distinct_below}
use Rattle.std.proofs.lemmas.Map.Views.{Contains-from_any}
use Rattle.graph_core.specs.DataGraph.{DataGraph, size}
use Rattle.graph_core.specs.Growth.{ListsEach, extended, growth_order, is_listed, listed_after, seeded, unlisted}
use Rattle.graph_core.specs.Neighbours.{neighbours_of}
use Rattle.graph_core.proofs.EdgeLemmas.{eqb_flips}
use Rattle.graph_core.proofs.GrowthLemmas.{neighbours_ascend}
use Rattle.graph_core.proofs.GrowthMarks.{is_listed-push}

-- vertices below n, no two of them equal, and so many at least
record IsGrown (n many : ℕ) (listed : List ℕ) : Type 0 where
  apart : IsDistinct eqb listed
  below : All (λ v. v < n) listed
  enough : many ≤ length listed

-- what is not listed, nor equal to a vertex, is not listed with that vertex either
still_new : (listed : List ℕ) (v : ℕ) (more : List ℕ) → AllByRecursion (λ u. eqb v u ≡ false) more → AllByRecursion (λ u. is_listed listed u ≡ false) more → AllByRecursion (λ u. is_listed (listed ++ v ∷ []) u ≡ false) more
still_new listed v [] others new = tt
still_new listed v (u ∷ more) others new =
    (is_listed-push listed v u ∙ or_from (is_listed listed u) (eqb u v) new.0 (eqb_flips u v ∙ others.0), still_new listed v more others.1 new.1)

-- behind what is listed stand others, no two of them equal
appended_apart : (listed more : List ℕ) → IsDistinct eqb listed → IsDistinct eqb more → AllByRecursion (λ u. is_listed listed u ≡ false) more → IsDistinct eqb (listed ++ more)
appended_apart listed [] apart others new = subst (IsDistinct eqb) (sym (append-nil listed)) apart
appended_apart listed (v ∷ more) apart others new =
    subst (IsDistinct eqb) (append_assoc listed (v ∷ []) more)
    (appended_apart (listed ++ v ∷ []) more (IsDistinct-push nat_eq_equiv listed v apart new.0) (IsDistinct-tail eqb v more others)
    (still_new listed v more (IsDistinct-head eqb v more others) new.1))

-- what is kept of vertices because it is not listed is not listed
kept_new : (listed vertices : List ℕ) → AllByRecursion (λ u. is_listed listed u ≡ false) (unlisted listed vertices)
kept_new listed vertices =
    recursion_from_All (λ u. is_listed listed u ≡ false) (unlisted listed vertices)
    (λ k d inside. not-true (is_listed listed (get_or (unlisted listed vertices) k d)) (filter_passes (λ v. not (is_listed listed v)) vertices k d inside))

-- ---- a seed

none_kept : (p : ℕ → Bool) (xs : List ℕ) → filter p xs ≡ [] → AllByRecursion (λ x. p x ≡ false) xs
none_kept p [] none = tt
none_kept p (x ∷ xs) none =
    let at : (b : Bool) → p x ≡ b → cond b (x ∷ filter p xs) (filter p xs) ≡ [] = λ b is. ap (λ (c : Bool). cond c (x ∷ filter p xs) (filter p xs)) (sym is) ∙ none in
    elim (cases_Bool (p x)) [
      | inl passes ↦ absurd (never x (filter p xs) (at _ passes))
      | inr fails ↦ (fails, none_kept p xs (at _ fails))
    ]
  where
    never : (x : ℕ) (xs : List ℕ) → x ∷ xs ≡ [] → ⊥
    never x xs e = cc

range_low : (n : ℕ) → All (λ v. v < n) (range_with_len 0 n)
range_low n = λ k d inside.
    let low : k < n = subst (λ (m : ℕ). k < m) (length-range_with_len 0 n) inside in
    omega (arith, get_or-range_with_len 0 n k d low)

-- where each vertex is listed, as many are listed as there are
all_listed : (n : ℕ) (listed : List ℕ) → unlisted listed (0 ∷ range_with_len 0 n) ≡ [] → n ≤ length listed
all_listed n listed none =
    le-length_from_below listed n (λ v low.
    let at : get_or (range_with_len 0 n) v 0 ≡ v = get_or-range_with_len 0 n v 0 low ∙ zero-add v in
    let inside : v < length (range_with_len 0 n) = subst (λ (m : ℕ). v < m) (sym (length-range_with_len 0 n)) low in
    let here : not (is_listed listed (get_or (range_with_len 0 n) v 0)) ≡ false =
    All-from_recursion (λ u. not (is_listed listed u) ≡ false) (range_with_len 0 n) (none_kept (λ u. not (is_listed listed u)) (0 ∷ range_with_len 0 n) none).1 v 0 inside in
    not-false (is_listed listed v) (ap (λ (u : ℕ). not (is_listed listed u)) (sym at) ∙ here))

-- the first of those that are not listed is listed too
first_grown : (n many : ℕ) (listed new : List ℕ) → IsGrown n many listed → (new ≡ [] → ⊥) → All (λ v. v < n) new → AllByRecursion (λ v. is_listed listed v ≡ false) new → IsGrown n (suc many) (listed ++ take 1 new)
first_grown n many listed [] grown some low unseen = absurd (some refl)
first_grown n many listed (v ∷ new) grown some low unseen =
    record {
      apart = IsDistinct-push nat_eq_equiv listed v grown.apart unseen.0;
      below = All-push (λ v. v < n) listed v grown.below (All-head (λ v. v < n) v new low);
      enough = omega (arith, grown.enough, length_push listed v);
    }

seeded_grown : (g : DataGraph) (taken : ℕ) (listed : List ℕ) → IsGrown (size g) taken listed → taken < size g → IsGrown (size g) (suc taken) (seeded g 0 taken listed)
seeded_grown g taken listed grown low =
    elim (cases_lt taken (length listed)) [
      | inl more ↦ rw (lt-ltb taken (length listed) more) (record { apart = grown.apart; below = grown.below; enough = omega arith })
      | inr all ↦
          let first : All (λ v. v < size g) (0 ∷ range_with_len 0 (size g)) = All-cons (λ v. v < size g) 0 (range_with_len 0 (size g)) (omega arith) (range_low (size g)) in
          rw (le-ltb taken (length listed) all)
          (first_grown (size g) taken listed (unlisted listed (0 ∷ range_with_len 0 (size g))) grown (λ none. omega (arith, all_listed (size g) listed none))
          (All-filter (λ v. not (is_listed listed v)) (λ v. v < size g) (0 ∷ range_with_len 0 (size g)) first) (kept_new listed (0 ∷ range_with_len 0 (size g))))
    ]

-- ---- its neighbours

extended_grown : (g : DataGraph) (place many : ℕ) (listed : List ℕ) → IsGrown (size g) many listed → IsGrown (size g) many (extended g place listed)
extended_grown g place many listed grown =
    let row : List ℕ = neighbours_of g (slice_index listed place) in
    let kept : List ℕ = unlisted listed row in
    let ascend : AllPairs (λ (u v : ℕ). u < v) kept = AllPairs-filter (λ (u v : ℕ). u < v) (λ v. not (is_listed listed v)) row (neighbours_ascend g (slice_index listed place) row refl) in
    let differ : AllPairs (λ (u v : ℕ). u ≢ v) kept = λ i j d before inside. λ e. omega (arith, e, ascend i j d before inside) in
    record {
      apart = appended_apart listed kept grown.apart (IsDistinct-from_AllPairs Decides-eqb kept differ) (kept_new listed row);
      below = All-append (λ v. v < size g) listed kept grown.below
          (All-filter (λ v. not (is_listed listed v)) (λ v. v < size g) row (All-filter _ (λ v. v < size g) (range_with_len 0 (size g)) (range_low (size g))));
      enough = omega (arith, grown.enough, length-append listed kept);
    }

-- ---- the order of growth

after_grown : (g : DataGraph) (taken : ℕ) → taken ≤ size g → IsGrown (size g) taken (listed_after g 0 taken)
unfolding IsDistinct
after_grown g zero few = record { apart = tt; below = All-nil (λ v. v < size g); enough = omega arith }
after_grown g (suc taken) few =
    extended_grown g taken (suc taken) (seeded g 0 taken (listed_after g 0 taken))
    (seeded_grown g taken (listed_after g 0 taken) (after_grown g taken (omega arith)) (omega arith))

few_apart : (n : ℕ) (xs : List ℕ) → IsDistinct eqb xs → All (λ v. v < n) xs → length xs ≤ n
few_apart n xs apart below = length-le_from_distinct_below xs n apart (λ q there. All-contains (λ v. v < n) xs q below (Contains-from_any eqb-true q xs there))

-- each vertex is listed
grown_all : (n : ℕ) (listed : List ℕ) → IsGrown n n listed → (v : ℕ) → v < n → is_listed listed v ≡ true
grown_all n listed grown v low = elim (cases_Bool (is_listed listed v)) [
  | inl there ↦ there
  | inr missing ↦
      let more = few_apart n (listed ++ v ∷ []) (IsDistinct-push nat_eq_equiv listed v grown.apart missing) (All-push (λ u. u < n) listed v grown.below low) in
      absurd (omega (arith, more, length_push listed v, grown.enough))
]

-- it lists each vertex once
pub growth_lists_each : (g : DataGraph) → ListsEach (size g) (growth_order g 0)
growth_lists_each g =
    let order : List ℕ = growth_order g 0 in
    let grown = after_grown g (size g) (omega arith) in
    let few = few_apart (size g) order grown.apart grown.below in
    record {
      count = omega (arith, few, grown.enough);
      below = grown.below;
      apart = grown.apart;
      all = grown_all (size g) order grown;
    }

-- the place of a vertex in the order of growth
pub place_in_growth : (g : DataGraph) (v : ℕ) → v < size g → (p : ℕ) × (p < size g) × (slice_index (growth_order g 0) p ≡ v)
place_in_growth g v low =
    let order : List ℕ = growth_order g 0 in
    let grown = after_grown g (size g) (omega arith) in
    let there = Contains-from_any eqb-true v order (grown_all (size g) order grown v low) in
    (there.0, omega (arith, there.1, few_apart (size g) order grown.apart grown.below), get_or_default order there.0 0 v there.1 ∙ there.2)
