-- Half-edges, neighbours and degrees of a data graph.
use Rattle.std.proofs.Common.{◌≡◌, ◌⊎◌, ℕ, zero, suc, ◌+◌, ◌<◌, ◌≤◌, Bool, true, false, not, ◌&&◌, List, [], ◌∷◌, ◌++◌, length, map, get_or, slice_get, Some, eqb, refl, sym, ap, ◌∙◌, subst, inl, inr, ⊎_elim, Contains, All, AllPairs, add-one, arith}
use Rattle.std.specs.List.{filter, list_any, range_with_len}
use Rattle.std.proofs.lemmas.Bool.{cases_eq, cases_Bool, eq-eqb, ne_eqb, eqb-true, or_cases, and_parts}
use Rattle.std.proofs.lemmas.Cmp.{nat_eq_equiv}
use Rattle.std.proofs.lemmas.List.{map-id, length-append, get_or_default}
use Rattle.std.proofs.lemmas.Option.{get_or_from_slice_get, slice_get_within}
use Rattle.std.proofs.lemmas.List.Elements.{Contains-append_left, Contains-append_right, Contains-append_cases, All-contains, filter_passes, filter-append}
use Rattle.std.proofs.lemmas.List.FromFn.{get_or-range_with_len, length-range_with_len, map-range_with_len_more}
use Rattle.std.proofs.lemmas.List.Folds.{Any-from_list_any}
use Rattle.std.proofs.lemmas.List.Kept.{AllPairs-cons, AllPairs-filter}
use Rattle.std.proofs.lemmas.Map.Views.{Contains-from_any, list_any-from_Contains}
use Rattle.graph_core.specs.DataGraph.{DataEdge, DataGraph, IsDataGraph, IsEdge, size}
use Rattle.graph_core.specs.Colourings.{joins, degree_below, degree_of}
use Rattle.graph_core.specs.Halves.{DataHalf, half_at, halves_from, halves_of}
use Rattle.graph_core.specs.Neighbours.{neighbours_of}
use Rattle.graph_core.specs.GraphLaws.{IsHalfAt}
use Rattle.graph_core.proofs.NeighbourLemmas.{halves_join, joined_below}

-- ---- half-edges

-- the half-edge of an edge at v
record IsHalfOf (directed : Bool) (v : ℕ) (h : DataHalf) (e : DataEdge) : Type 0 where
  weight : h.weight ≡ e.weight
  side : ((e.from ≡ v) × (e.to ≡ h.other) × (h.out ≡ true) × (h.into ≡ not directed)) ⊎ ((e.to ≡ v) × (e.from ≡ h.other) × (h.out ≡ not directed) × (h.into ≡ true))

none_in_nil : {X : Type 0} (x : X) → Contains [] x → ⊥
none_in_nil x (k, inside, read) = omega arith

only : {X : Type 0} (x y : X) → Contains (x ∷ []) y → x ≡ y
only x y (zero, inside, read) = read
only x y (suc k, inside, read) = absurd (omega arith)

of_half_at : (directed : Bool) (v k : ℕ) (e : DataEdge) (h : DataHalf) → Contains (half_at directed v k e) h → (h.edge ≡ k) × IsHalfOf directed v h e
of_half_at directed v k e h =
    ⊎_elim
    (λ (at : e.from ≡ v). rw (eq-eqb e.from v at)
    (λ has. let is = only _ h has in
    (sym (ap (λ x. x.edge) is), record { weight = sym (ap (λ x. x.weight) is); side = inl (at, ap (λ x. x.other) is, sym (ap (λ x. x.out) is), sym (ap (λ x. x.into) is)) })))
    (λ off. ⊎_elim
    (λ (at : e.to ≡ v). rw (ne_eqb e.from v off, eq-eqb e.to v at)
    (λ has. let is = only _ h has in
    (sym (ap (λ x. x.edge) is), record { weight = sym (ap (λ x. x.weight) is); side = inr (at, ap (λ x. x.other) is, sym (ap (λ x. x.out) is), sym (ap (λ x. x.into) is)) })))
    (λ off_to. rw (ne_eqb e.from v off, ne_eqb e.to v off_to) (λ has. absurd (none_in_nil h has)))
    (cases_eq e.to v))
    (cases_eq e.from v)

fields_are : (h : DataHalf) (edge other weight : ℕ) (out into : Bool) → h.edge ≡ edge → h.other ≡ other → h.weight ≡ weight → h.out ≡ out → h.into ≡ into → record { edge = edge; other = other; weight = weight; out = out; into = into } ≡ h
fields_are h edge other weight out into e o w u i = rw (← e, ← o, ← w, ← u, ← i) refl

in_half_at : (directed : Bool) (v k : ℕ) (e : DataEdge) (h : DataHalf) → (e.from ≡ e.to → ⊥) → h.edge ≡ k → IsHalfOf directed v h e → Contains (half_at directed v k e) h
in_half_at directed v k e h apart edge half =
    ⊎_elim
    (λ s. let is = fields_are h k e.to e.weight true (not directed) edge (sym s.1) half.weight s.2 s.3 in
    rw (eq-eqb e.from v s.0) (0, omega arith, is))
    (λ s. let off : e.from ≡ v → ⊥ = λ q. apart (q ∙ sym s.0) in
    let is = fields_are h k e.from e.weight (not directed) true edge (sym s.1) half.weight s.2 s.3 in
    rw (ne_eqb e.from v off, eq-eqb e.to v s.0) (0, omega arith, is))
    half.side

of_halves_from : (directed : Bool) (v k : ℕ) (edges : List DataEdge) (h : DataHalf) → Contains (halves_from directed v k edges) h → (i : ℕ) × (e : DataEdge) × (h.edge ≡ k + i) × (slice_get edges i ≡ Some e) × IsHalfOf directed v h e
of_halves_from directed v k [] h has = absurd (none_in_nil h has)
of_halves_from directed v k (e ∷ edges) h has =
    ⊎_elim
    (λ here. let half = of_half_at directed v k e h here in (0, e, omega (arith, half.0), refl, half.1))
    (λ there. let (i, f, edge, at, half) = of_halves_from directed v (suc k) edges h there in (suc i, f, omega arith, at, half))
    (Contains-append_cases (half_at directed v k e) (halves_from directed v (suc k) edges) h has)

in_halves_from : (directed : Bool) (v k : ℕ) (edges : List DataEdge) (h : DataHalf) (i : ℕ) (e : DataEdge) → (e.from ≡ e.to → ⊥) → h.edge ≡ k + i → slice_get edges i ≡ Some e → IsHalfOf directed v h e → Contains (halves_from directed v k edges) h
in_halves_from directed v k [] h i e apart edge at half = cc
in_halves_from directed v k (x ∷ edges) h zero e apart edge at half =
    let is : e ≡ x = cc in
    Contains-append_left (half_at directed v k x) (halves_from directed v (suc k) edges) h
    (in_half_at directed v k x h (subst (λ y. y.from ≡ y.to → ⊥) is apart) (omega arith) (subst (λ y. IsHalfOf directed v h y) is half))
in_halves_from directed v k (x ∷ edges) h (suc i) e apart edge at half =
    Contains-append_right (half_at directed v k x) (halves_from directed v (suc k) edges) h
    (in_halves_from directed v (suc k) edges h i e apart (omega arith) at half)

pub half_is : (g : DataGraph) (v : ℕ) (h : DataHalf) → Contains (halves_of g v) h → (e : DataEdge) × IsHalfAt g v h e
half_is g v h has =
    let (i, e, edge, at, half) = of_halves_from g.directed v 0 g.edges h has in
    let n : i ≡ h.edge = omega arith in
    (e, record { edge = subst (λ j. slice_get g.edges j ≡ Some e) n at; weight = half.weight; side = half.side })

pub half_in : (g : DataGraph) (v : ℕ) (h : DataHalf) (e : DataEdge) → IsDataGraph g → IsHalfAt g v h e → Contains (halves_of g v) h
half_in g v h e so half =
    let inside = slice_get_within g.edges h.edge e half.edge in
    let apart : e.from ≡ e.to → ⊥ = subst (λ x. x.from ≡ x.to → ⊥) (get_or_from_slice_get g.edges h.edge e e half.edge) (so.edges h.edge e inside).apart in
    in_halves_from g.directed v 0 g.edges h h.edge e apart (omega arith) half.edge (record { weight = half.weight; side = half.side })

halves_low : (directed : Bool) (v k : ℕ) (edges : List DataEdge) (h : DataHalf) → Contains (halves_from directed v k edges) h → k ≤ h.edge
halves_low directed v k edges h has = let (i, e, edge, at, half) = of_halves_from directed v k edges h has in omega arith

all_from_contains : {X : Type 0} (P : X → Type 0) (xs : List X) → ((x : X) → Contains xs x → P x) → All P xs
all_from_contains P xs each = λ k d l. each (get_or xs k d) (k, l, get_or_default xs k (get_or xs k d) d l)

abbrev half_begun : Bool → ℕ → DataEdge → DataHalf
half_begun directed k e = record { edge = k; other = e.to; weight = e.weight; out = true; into = not directed }

abbrev half_ended : Bool → ℕ → DataEdge → DataHalf
half_ended directed k e = record { edge = k; other = e.from; weight = e.weight; out = not directed; into = true }

pub halves_ascend : (directed : Bool) (v k : ℕ) (edges : List DataEdge) → AllPairs (λ g h. g.edge < h.edge) (halves_from directed v k edges)
halves_ascend directed v k [] = λ i j d l m. absurd (omega arith)
halves_ascend directed v k (e ∷ edges) =
    let rest = halves_ascend directed v (suc k) edges in
    let above : (g : DataHalf) → g.edge ≡ k → All (λ h. g.edge < h.edge) (halves_from directed v (suc k) edges) = λ g is. all_from_contains (λ h. g.edge < h.edge) (halves_from directed v (suc k) edges) (λ h has. omega (arith, halves_low directed v (suc k) edges h has)) in
    ⊎_elim
    (λ (at : e.from ≡ v). rw (eq-eqb e.from v at) (AllPairs-cons (λ g h. g.edge < h.edge) (half_begun directed k e) (halves_from directed v (suc k) edges) (above (half_begun directed k e) refl) rest))
    (λ off. ⊎_elim
    (λ (at : e.to ≡ v). rw (ne_eqb e.from v off, eq-eqb e.to v at) (AllPairs-cons (λ g h. g.edge < h.edge) (half_ended directed k e) (halves_from directed v (suc k) edges) (above (half_ended directed k e) refl) rest))
    (λ off_to. rw (ne_eqb e.from v off, ne_eqb e.to v off_to) rest)
    (cases_eq e.to v))
    (cases_eq e.from v)

-- ---- neighbours

in_filter : (p : ℕ → Bool) (xs : List ℕ) (u : ℕ) → Contains xs u → p u ≡ true → Contains (filter p xs) u
in_filter p [] u has pass = absurd (none_in_nil u has)
in_filter p (x ∷ xs) u (zero, inside, read) pass = rw (read, pass) (0, omega arith, refl)
in_filter p (x ∷ xs) u (suc k, inside, read) pass =
    let rest = in_filter p xs u (k, omega arith, read) pass in
    ⊎_elim
    (λ (e : p x ≡ true). rw e (Contains-append_right (x ∷ []) (filter p xs) u rest))
    (λ (e : p x ≡ false). rw e rest)
    (cases_Bool (p x))

in_range : (n u : ℕ) → u < n → Contains (range_with_len 0 n) u
in_range n u l = (u, omega (arith, length-range_with_len 0 n), omega (arith, get_or-range_with_len 0 n u u l))

apart_ends : (g : DataGraph) → IsDataGraph g → All (λ e. e.from ≡ e.to → ⊥) g.edges
apart_ends g so = λ k d l. (so.edges k d l).apart

pub neighbours_same : (g : DataGraph) (v u : ℕ) → IsDataGraph g → (Contains (neighbours_of g v) u → Contains (map (λ h. h.other) (halves_of g v)) u) × (Contains (map (λ h. h.other) (halves_of g v)) u → Contains (neighbours_of g v) u)
neighbours_same g v u so =
    let join = halves_join g.directed v u 0 g.edges (apart_ends g so) in
    let p = λ (w : ℕ). list_any (joins v w) g.edges in
    let others = map (λ h. h.other) (halves_of g v) in (
      λ has. let pass = All-contains (λ w. p w ≡ true) (neighbours_of g v) u (filter_passes p (range_with_len 0 (size g))) has in
          Contains-from_any eqb-true u others (join ∙ pass),
      λ has. let pass = sym join ∙ list_any-from_Contains nat_eq_equiv u others has in
          in_filter p (range_with_len 0 (size g)) u (in_range (size g) u (joined_below g v u so pass)) pass,
    )

range_ascends : (a n : ℕ) → AllPairs (λ u w. u < w) (range_with_len a n)
range_ascends a n = λ i j d l m.
    let len = length-range_with_len a n in
    omega (arith, get_or-range_with_len a n i d (omega arith), get_or-range_with_len a n j d (omega arith))

pub neighbours_ascend : (g : DataGraph) (v : ℕ) → AllPairs (λ u w. u < w) (neighbours_of g v)
neighbours_ascend g v = AllPairs-filter (λ u w. u < w) (λ u. list_any (joins v u) g.edges) (range_with_len 0 (size g)) (range_ascends 0 (size g))

-- ---- degrees

range_more : (n : ℕ) → range_with_len 0 (suc n) ≡ range_with_len 0 n ++ n ∷ []
range_more n =
    let more = map-range_with_len_more (λ (x : ℕ). x) 0 n n (omega arith) in
    let plain = rw (map-id (range_with_len 0 n), map-id (range_with_len 0 (n + 1))) at more in
    subst (λ m. range_with_len 0 m ≡ range_with_len 0 n ++ n ∷ []) (add-one n) plain

degree_is : (g : DataGraph) (v n : ℕ) → degree_below g v n ≡ length (filter (λ u. list_any (joins v u) g.edges) (range_with_len 0 n))
degree_is g v zero = refl
degree_is g v (suc n) =
    let p = λ (u : ℕ). list_any (joins v u) g.edges in
    let before = degree_is g v n in
    let both : length (filter p (range_with_len 0 (suc n))) ≡ length (filter p (range_with_len 0 n)) + length (filter p (n ∷ [])) =
    ap (λ xs. length (filter p xs)) (range_more n) ∙ ap length (filter-append p (range_with_len 0 n) (n ∷ [])) ∙ length-append (filter p (range_with_len 0 n)) (filter p (n ∷ [])) in
    ⊎_elim
    (λ (e : list_any (joins v n) g.edges ≡ true).
    let one : length (filter p (n ∷ [])) ≡ 1 = rw e refl in
    rw e (omega arith))
    (λ (e : list_any (joins v n) g.edges ≡ false).
    let none : length (filter p (n ∷ [])) ≡ 0 = rw e refl in
    rw e (omega arith))
    (cases_Bool (list_any (joins v n) g.edges))

pub degree_counts : (g : DataGraph) (v : ℕ) → degree_of g v ≡ length (neighbours_of g v)
degree_counts g v = degree_is g v (size g)

no_own_neighbour : (g : DataGraph) (v : ℕ) → IsDataGraph g → list_any (joins v v) g.edges ≡ true → ⊥
no_own_neighbour g v so had =
    let (k, e, inside, read, holds) = Any-from_list_any (joins v v) g.edges had in
    let edge : IsEdge (size g) g.directed e = subst (λ x. IsEdge (size g) g.directed x) read (so.edges k e inside) in
    ⊎_elim
    (λ h. let both = and_parts (eqb e.from v) (eqb e.to v) h in edge.apart (eqb-true e.from v both.0 ∙ sym (eqb-true e.to v both.1)))
    (λ h. let both = and_parts (eqb e.from v) (eqb e.to v) h in edge.apart (eqb-true e.from v both.0 ∙ sym (eqb-true e.to v both.1)))
    (or_cases (eqb e.from v && eqb e.to v) (eqb e.from v && eqb e.to v) holds)

degree_le : (g : DataGraph) (v n : ℕ) → degree_below g v n ≤ n
degree_le g v zero = omega arith
degree_le g v (suc n) =
    ⊎_elim
    (λ (e : list_any (joins v n) g.edges ≡ true). rw e (omega (arith, degree_le g v n)))
    (λ (e : list_any (joins v n) g.edges ≡ false). rw e (omega (arith, degree_le g v n)))
    (cases_Bool (list_any (joins v n) g.edges))

degree_lt : (g : DataGraph) (v n : ℕ) → IsDataGraph g → v < n → degree_below g v n < n
degree_lt g v zero so l = absurd (omega arith)
degree_lt g v (suc n) so l =
    ⊎_elim
    (λ (e : list_any (joins v n) g.edges ≡ true).
    ⊎_elim
    (λ (same : v ≡ n). absurd (no_own_neighbour g v so (subst (λ u. list_any (joins v u) g.edges ≡ true) (sym same) e)))
    (λ other. rw e (omega (arith, other, degree_lt g v n so (omega (arith, other)))))
    (cases_eq v n))
    (λ (e : list_any (joins v n) g.edges ≡ false). rw e (omega (arith, degree_le g v n)))
    (cases_Bool (list_any (joins v n) g.edges))

pub degree_low : (g : DataGraph) (v : ℕ) → IsDataGraph g → v < size g → degree_of g v < size g
degree_low g v so l = degree_lt g v (size g) so l
