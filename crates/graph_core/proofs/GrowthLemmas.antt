-- The order of growth, vertex by vertex.
use Rattle.std.proofs.Common.{◌≡◌, ℕ, zero, suc, ◌+◌, ◌<◌, ◌≤◌, inl, inr, Bool, true, false, not, cond, List, [], ◌∷◌, ◌++◌, length, get_or, take, replicate, All, AllPairs, refl, sym, ap, ◌∙◌, subst, arith, length-append}
use Rattle.std.specs.Prelude.{count_by}
use Rattle.std.specs.List.{filter, range_with_len, IsDistinct, AllByRecursion}
use Rattle.std.proofs.lemmas.Bool.{cases_eq, le-ltb, lt-ltb}
use Rattle.std.proofs.lemmas.List.{get_or-replicate, length-replicate, length_push, length-map, get_or-map}
use Rattle.std.proofs.lemmas.List.Elements.{All-nil, All-filter, All-from_recursion}
use Rattle.std.proofs.lemmas.List.Kept.{AllPairs-filter, AllPairs-cons}
use Rattle.std.proofs.lemmas.List.Sums.{count_by-le-length, sum_by-cons}
use Rattle.gl_base.specs.declared.numbers.Vertex.{Vertex}
use Rattle.graph_core.specs.DataGraph.{DataGraph, size}
use Rattle.graph_core.specs.Neighbours.{neighbours_of}
use Rattle.graph_core.specs.Growth.{numbers_of, is_listed, unlisted, seeded, extended, listed_after, growth_order, ListsEach}
use Rattle.graph_core.specs.Inner.GrowthMarks.{AreMarks, IsGrowing}

-- the first of ascending numbers that passes a test
least_first : (p : ℕ → Bool) (v k a : ℕ) → ((u : ℕ) → u < v → p u ≡ false) → p v ≡ true → a ≤ v → v < a + k → take 1 (filter p (range_with_len a k)) ≡ v ∷ []
least_first p v zero a none here low high = absurd (omega arith)
least_first p v (suc k) a none here low high = elim (cases_eq a v) [
  | inl e ↦
      let passes : p a ≡ true = ap p e ∙ here in
      rw passes (ap (λ (u : ℕ). u ∷ []) e)
  | inr n ↦
      let fails : p a ≡ false = none a (omega arith) in
      rw fails (least_first p v k (a + 1) none here (omega arith) (omega arith))
]

-- at first the seed is the first vertex
pub seeded-first : (g : DataGraph) (first : ℕ) (listed : List ℕ) → listed ≡ [] → seeded g first (length listed) listed ≡ listed ++ first ∷ []
seeded-first g first listed none = subst (λ (l : List ℕ). seeded g first (length l) l ≡ l ++ first ∷ []) (sym none) refl

-- and later the least vertex that is not listed
pub seeded-later : (g : DataGraph) (first : ℕ) (listed : List ℕ) (marks : List Bool) (seed : ℕ) → AreMarks listed marks → length marks ≡ size g → seed < length marks → first < length marks → get_or marks first false ≡ true → ((u : ℕ) → u < seed → get_or marks u false ≡ true) → get_or marks seed false ≡ false
    → seeded g first (length listed) listed ≡ listed ++ seed ∷ []
seeded-later g first listed marks seed are room inside first_inside first_marked before new =
    let p : ℕ → Bool = λ v. not (is_listed listed v) in
    let marked = λ (u : ℕ) (l : u < length marks) (h : get_or marks u false ≡ true). ap not (sym (are.same u l) ∙ h) in
    let first_is : p first ≡ false = marked first first_inside first_marked in
    let seed_is : p seed ≡ true = ap not (sym (are.same seed inside) ∙ new) in
    let least = least_first p seed (size g) 0 (λ u h. marked u (omega arith) (before u h)) seed_is (omega arith) (omega arith) in
    rw (le-ltb (length listed) (length listed) (omega arith), first_is) (ap (λ (vs : List ℕ). listed ++ vs) least)

-- after a seed what is listed grows
pub IsGrowing-seeded : (g : DataGraph) (first : ℕ) (old listed : List ℕ) (seed place : ℕ) → place ≡ length old → old ≡ listed_after g first place → seeded g first (length old) old ≡ old ++ seed ∷ [] → listed ≡ old ++ seed ∷ [] → IsGrowing g first listed place
IsGrowing-seeded g first old listed seed place at grown seeds is =
    let len = ap length is ∙ length_push old seed in
    record {
      within = omega (arith, len);
      next = λ _. ap (extended g place) (is ∙ sym seeds ∙ ap (λ (n : ℕ). seeded g first n old) (sym at) ∙ ap (seeded g first place) grown);
      ended = λ h. absurd (omega (arith, len));
    }

-- and goes on growing
pub IsGrowing-more : (g : DataGraph) (first : ℕ) (listed new : List ℕ) (place : ℕ) → IsGrowing g first listed place → place < length listed → new ≡ extended g place listed → IsGrowing g first new (place + 1)
IsGrowing-more g first listed new place growing inside is =
    let more : place + 1 ≡ suc place = omega arith in
    let grown : new ≡ listed_after g first (place + 1) = is ∙ growing.next inside ∙ ap (listed_after g first) (sym more) in
    let len = ap length is ∙ length-append listed (unlisted listed (neighbours_of g (get_or listed place 0))) in
    record {
      within = omega (arith, len);
      next = λ h.
          let waits : seeded g first (place + 1) new ≡ new = rw (lt-ltb (place + 1) (length new) h) refl in
          ap (extended g (place + 1)) (sym waits ∙ ap (seeded g first (place + 1)) grown);
      ended = λ _. grown;
    }

-- what has grown as far as it goes has as many vertices as were taken
pub grown_length : (g : DataGraph) (first : ℕ) (listed : List ℕ) (place : ℕ) → IsGrowing g first listed place → length listed ≤ place → listed ≡ listed_after g first (length listed)
grown_length g first listed place growing all =
    let same : place ≡ length listed = omega (arith, growing.within) in
    growing.ended all ∙ ap (listed_after g first) same

-- there are no more vertices listed than marks
pub listed-le : (listed : List ℕ) (marks : List Bool) → AreMarks listed marks → length listed ≤ length marks
listed-le listed marks are = omega (arith, are.count, count_by-le-length (λ (m : Bool). m) marks)

-- where all are marked, all are listed
all_marked : (marks : List Bool) → ((v : ℕ) → v < length marks → get_or marks v false ≡ true) → count_by (λ (m : Bool). m) marks ≡ length marks
all_marked [] all = refl
all_marked (m ∷ marks) all =
    let here : m ≡ true = all 0 (omega arith) in
    let rest = all_marked marks (λ v h. all (suc v) (omega arith)) in
    let one : ◌≡◌ {A = ℕ} (cond m 1 0) 1 = ap (λ (b : Bool). cond b 1 0) here in
    omega (arith, sum_by-cons (λ (b : Bool). cond b 1 0) m marks, one, rest)

-- at first nothing is marked
pub AreMarks-none : (n : ℕ) → AreMarks [] (replicate n false)
unfolding IsDistinct
AreMarks-none n =
    record {
      same = λ v h. get_or-replicate n v false false (omega (arith, length-replicate n false));
      below = All-nil (λ (u : ℕ). u < length (replicate n false));
      apart = tt;
      count = none_marked n;
    }
  where
    none_marked : (n : ℕ) → count_by (λ (m : Bool). m) (replicate n false) ≡ 0
    none_marked zero = refl
    none_marked (suc n) = omega (arith, sum_by-cons (λ (b : Bool). cond b 1 0) false (replicate n false), none_marked n)

-- in the end each vertex stands in the list once
pub ListsEach-from_marks : (g : DataGraph) (listed : List ℕ) (marks : List Bool) → AreMarks listed marks → length marks ≡ size g → ((v : ℕ) → v < length marks → get_or marks v false ≡ true) → ListsEach (size g) listed
ListsEach-from_marks g listed marks are room all =
    record {
      count = omega (arith, are.count, all_marked marks all);
      below = subst (λ (n : ℕ). All (λ v. v < n) listed) room are.below;
      apart = are.apart;
      all = λ v h. sym (are.same v (omega arith)) ∙ all v (omega arith);
    }

-- and the order is the order of growth
pub growth_order-from_marks : (g : DataGraph) (first : ℕ) (listed : List ℕ) (marks : List Bool) → AreMarks listed marks → length marks ≡ size g → ((v : ℕ) → v < length marks → get_or marks v false ≡ true) → listed ≡ listed_after g first (length listed) → listed ≡ growth_order g first
growth_order-from_marks g first listed marks are room all grown =
    let count : length listed ≡ size g = omega (arith, are.count, all_marked marks all) in
    grown ∙ ap (listed_after g first) count

range_above : (a b n : ℕ) → a < b → AllByRecursion (λ u. a < u) (range_with_len b n)
range_above a b zero h = tt
range_above a b (suc n) h = (h, range_above a (b + 1) n (omega arith))

range_ascends : (a n : ℕ) → AllPairs (λ u v. u < v) (range_with_len a n)
range_ascends a zero = λ i j d before inside. absurd (omega arith)
range_ascends a (suc n) =
    AllPairs-cons (λ u v. u < v) a (range_with_len (a + 1) n) (All-from_recursion (λ u. a < u) (range_with_len (a + 1) n) (range_above a (a + 1) n (omega arith))) (range_ascends (a + 1) n)

range_below : (a n limit : ℕ) → a + n ≤ limit → AllByRecursion (λ u. u < limit) (range_with_len a n)
range_below a zero limit h = tt
range_below a (suc n) limit h = (omega arith, range_below (a + 1) n limit (omega arith))

-- neighbours ascend
pub neighbours_ascend : (g : DataGraph) (v : ℕ) (row : List ℕ) → row ≡ neighbours_of g v → AllPairs (λ a b. a < b) row
neighbours_ascend g v row is =
    subst (AllPairs (λ a b. a < b)) (sym is) (AllPairs-filter (λ a b. a < b) _ (range_with_len 0 (size g)) (range_ascends 0 (size g)))

-- and are vertices
pub neighbours_below : (g : DataGraph) (v limit : ℕ) (row : List Vertex) → size g ≡ limit → numbers_of row ≡ neighbours_of g v → All (λ (u : Vertex). u.0 < limit) row
neighbours_below g v limit row room is =
    let number : Vertex → ℕ = λ u. u.0 in
    let all : All (λ u. u < limit) (neighbours_of g v) = All-filter _ (λ u. u < limit) (range_with_len 0 (size g)) (All-from_recursion (λ u. u < limit) (range_with_len 0 (size g)) (range_below 0 (size g) limit (omega arith))) in
    λ k d h.
    let len = ap length (sym is) ∙ length-map row number in
    let here : get_or (neighbours_of g v) k 0 ≡ (get_or row k d).0 = ap (λ (xs : List ℕ). get_or xs k 0) (sym is) ∙ get_or-map number row k d 0 h in
    omega (arith, here, all k 0 (omega (arith, len)))
