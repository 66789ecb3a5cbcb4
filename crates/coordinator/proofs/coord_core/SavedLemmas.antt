-- Numbers that were saved stay the same where each stands once and they change places.
use Rattle.std.proofs.Common.{◌≡◌, ℕ, ◌<◌, ◌≤◌, ◌==◌, Bool, true, false, Option, None, Some, List, [], ◌∷◌, length, map, nat_eq, if◌then◌else◌, refl, sym, ap, arith, subst, ◌∙◌}
use Rattle.std.specs.Prelude.{slice_index_or}
use Rattle.std.specs.List.{AllByRecursion, IsDistinct}
use Rattle.std.specs.List.Sorted.{IsNonDecreasing, IsNonDecreasingBy, IsPermutation, IsStrictlyIncreasing}
use Rattle.std.specs.Map.{keys_of, lookup}
use Rattle.std.proofs.lemmas.Bool.{eqb-true}
use Rattle.std.proofs.lemmas.Cmp.{nat_eq_equiv}
use Rattle.std.proofs.lemmas.List.{get_or-map, length-map}
use Rattle.std.proofs.lemmas.List.Sorted.{Contains-permutation, IsPermutation-map, IsPermutation-sym}
use Rattle.std.proofs.lemmas.Map.Keys.{IsDistinct-IsPermutation, IsStrictlyIncreasing-from_distinct}
use Rattle.std.proofs.lemmas.Map.Views.{Contains-from_lookup, lookup-from_Contains}
use Rattle.gl_base.specs.declared.numbers.EdgeNo.{EdgeNo}
use Rattle.gl_base.specs.declared.numbers.Vertex.{Vertex}
use Rattle.coordinator.specs.snap_update.Holding.{last_of_edge, last_of_vertex, later_number}

-- ---- the last number of a key

abbrev last_in : List (ℕ × ℕ) → ℕ → Option ℕ
last_in [] k = None
last_in (pair ∷ pairs) k = later_number (last_in pairs k) (if k == pair.0 then Some pair.1 else None)

later_none : (later : Option ℕ) → later_number later None ≡ later
later_none None = refl
later_none (Some n) = refl

absent : (k : ℕ) (pairs : List (ℕ × ℕ)) → AllByRecursion (λ y. nat_eq k y ≡ false) (keys_of pairs) → last_in pairs k ≡ None
absent k [] all = refl
absent k (pair ∷ pairs) all =
    ap (λ (b : Bool). later_number (last_in pairs k) (if b then Some pair.1 else None)) all.0 ∙ later_none (last_in pairs k) ∙ absent k pairs all.1

pick : (b : Bool) (later : Option ℕ) (n : ℕ) (found : Option ℕ) → (b ≡ true → later ≡ None) → later ≡ found → later_number later (if b then Some n else None) ≡ (if b then Some n else found)
pick true later n found none same = ap (λ (o : Option ℕ). later_number o (Some n)) (none refl)
pick false later n found none same = later_none later ∙ same

last_lookup : (pairs : List (ℕ × ℕ)) (k : ℕ) → IsDistinct nat_eq (keys_of pairs) → last_in pairs k ≡ lookup (nat_eq k) pairs
unfolding IsDistinct
last_lookup [] k apart = refl
last_lookup (pair ∷ pairs) k apart =
    pick (nat_eq k pair.0) (last_in pairs k) pair.1 (lookup (nat_eq k) pairs)
    (λ same. absent k pairs (subst (λ (n : ℕ). AllByRecursion (λ y. nat_eq n y ≡ false) (keys_of pairs)) (sym (eqb-true k pair.0 same)) apart.0))
    (last_lookup pairs k apart.1)

found_too : (xs ys : List (ℕ × ℕ)) (k n : ℕ) → IsPermutation xs ys → IsDistinct nat_eq (keys_of ys) → lookup (nat_eq k) xs ≡ Some n → lookup (nat_eq k) ys ≡ Some n
found_too xs ys k n same apart found =
    lookup-from_Contains nat_eq_equiv k n ys apart (Contains-permutation xs ys (k, n) same (Contains-from_lookup (λ x y. eqb-true x y) k n xs found))

alike : (one other : Option ℕ) → ((n : ℕ) → one ≡ Some n → other ≡ Some n) → ((n : ℕ) → other ≡ Some n → one ≡ Some n) → one ≡ other
alike None None to from = refl
alike None (Some n) to from = from n refl
alike (Some n) other to from = sym (to n refl)

flips : (x y : ℕ) → nat_eq x y ≡ nat_eq y x
flips x y = nat_eq_equiv.symm x y

apart_too : (xs ys : List (ℕ × ℕ)) → IsPermutation xs ys → IsDistinct nat_eq (keys_of xs) → IsDistinct nat_eq (keys_of ys)
apart_too xs ys same apart = IsDistinct-IsPermutation nat_eq flips (keys_of xs) (keys_of ys) (IsPermutation-map (λ e. e.0) xs ys same) apart

last_same : (xs ys : List (ℕ × ℕ)) (k : ℕ) → IsPermutation xs ys → IsDistinct nat_eq (keys_of xs) → last_in xs k ≡ last_in ys k
last_same xs ys k same apart =
    let apart_now : IsDistinct nat_eq (keys_of ys) = apart_too xs ys same apart in
    last_lookup xs k apart
    ∙ alike (lookup (nat_eq k) xs) (lookup (nat_eq k) ys) (λ n found. found_too xs ys k n same apart_now found)
    (λ n found. found_too ys xs k n (IsPermutation-sym xs ys same) apart found)
    ∙ sym (last_lookup ys k apart_now)

-- ---- of vertices and of edges

abbrev bare_vertex : Vertex × ℕ → ℕ × ℕ
bare_vertex pair = (pair.0.0, pair.1)

abbrev bare_edge : EdgeNo × ℕ → ℕ × ℕ
bare_edge pair = (pair.0.0, pair.1)

vertex_last : (pairs : List (Vertex × ℕ)) (v : ℕ) → last_of_vertex pairs v ≡ last_in (map bare_vertex pairs) v
vertex_last [] v = refl
vertex_last (pair ∷ pairs) v = ap (λ (o : Option ℕ). later_number o (if v == pair.0.0 then Some pair.1 else None)) (vertex_last pairs v)

edge_last : (pairs : List (EdgeNo × ℕ)) (e : ℕ) → last_of_edge pairs e ≡ last_in (map bare_edge pairs) e
edge_last [] e = refl
edge_last (pair ∷ pairs) e = ap (λ (o : Option ℕ). later_number o (if e == pair.0.0 then Some pair.1 else None)) (edge_last pairs e)

keys_bare : {X : Type 0} (f : X → ℕ × ℕ) (pairs : List X) → keys_of (map f pairs) ≡ map (λ pair. (f pair).0) pairs
keys_bare f [] = refl
keys_bare f (pair ∷ pairs) = ap (λ (keys : List ℕ). (f pair).0 ∷ keys) (keys_bare f pairs)

pub same_vertices : (xs ys : List (Vertex × ℕ)) (v : ℕ) → IsPermutation xs ys → IsDistinct nat_eq (map (λ pair. pair.0.0) xs) → last_of_vertex xs v ≡ last_of_vertex ys v
same_vertices xs ys v same apart =
    vertex_last xs v
    ∙ last_same (map bare_vertex xs) (map bare_vertex ys) v (IsPermutation-map bare_vertex xs ys same) (subst (IsDistinct nat_eq) (sym (keys_bare bare_vertex xs)) apart)
    ∙ sym (vertex_last ys v)

pub same_edges : (xs ys : List (EdgeNo × ℕ)) (e : ℕ) → IsPermutation xs ys → IsDistinct nat_eq (map (λ pair. pair.0.0) xs) → last_of_edge xs e ≡ last_of_edge ys e
same_edges xs ys e same apart =
    edge_last xs e
    ∙ last_same (map bare_edge xs) (map bare_edge ys) e (IsPermutation-map bare_edge xs ys same) (subst (IsDistinct nat_eq) (sym (keys_bare bare_edge xs)) apart)
    ∙ sym (edge_last ys e)

-- ---- in order

ordered_map : {X : Type 0} (key : X → ℕ) (xs : List X) → IsNonDecreasingBy key xs → IsNonDecreasing (map key xs)
ordered_map key [] up i j d low inside = absurd (omega arith)
ordered_map key (x ∷ xs) up i j d low inside =
    let in_j : j < length (x ∷ xs) = subst (λ (n : ℕ). j < n) (length-map (x ∷ xs) key) inside in
    let in_i : i < length (x ∷ xs) = omega arith in
    subst (λ (n : ℕ). n ≤ slice_index_or (map key (x ∷ xs)) j d) (sym (get_or-map key (x ∷ xs) i x d in_i))
    (subst (λ (n : ℕ). key (slice_index_or (x ∷ xs) i x) ≤ n) (sym (get_or-map key (x ∷ xs) j x d in_j)) (up i j x low in_j))

pub rising : {X : Type 0} (key : X → ℕ) (xs ys : List X) → IsPermutation xs ys → IsDistinct nat_eq (map key xs) → IsNonDecreasingBy key ys → IsStrictlyIncreasing (map key ys)
rising key xs ys same apart up =
    IsStrictlyIncreasing-from_distinct (map key ys) (ordered_map key ys up)
    (IsDistinct-IsPermutation nat_eq flips (map key xs) (map key ys) (IsPermutation-map key xs ys same) apart)
