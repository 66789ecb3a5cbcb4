-- Whom an update matches, and what it leaves of the numbers.
use Rattle.std.proofs.Common.{◌≡◌, ◌≢◌, ◌⊎◌, ℕ, ◌<◌, ◌≤◌, ◌==◌, min, true, false, List, [], ◌∷◌, length, slice_index, slice_index_or, refl, sym, ◌∙◌, ap, subst, inl, inr, ⊎_elim, true≢false, arith, eq-eqb, ne_eqb, eqb-true}
use Rattle.std.specs.List.{AllByRecursion}
use Rattle.std.proofs.lemmas.Bool.{cases_Bool, cases_eq, cases_lt}
use Rattle.std.proofs.lemmas.List.{get_or_default}
use Rattle.std.proofs.lemmas.List.Folds.{list_any_at, Any-from_list_any}
use Rattle.gl_base.specs.declared.limits.TheConstants.{INF}
use Rattle.graph_core.specs.DataGraph.{DataEdge, DataGraph, size, IsDataGraph}
use Rattle.graph_core.specs.Colourings.{joins}
use Rattle.graph_core.specs.Halves.{DataHalf, halves_of}
use Rattle.graph_core.proofs.EdgeLemmas.{numbers_one}
use Rattle.graph_core.proofs.HalvesLaws.{each-weaker, IsHalfAt, halves_are, half_other, has_half_out, has_half_into}
use Rattle.seq_run.specs.FirstColours.{AreNeighbours}
use Rattle.seq_run.specs.States.{GraphState}
use Rattle.seq_run.proofs.Neighbours.{each-map, each-unmap, joins-ends, joins-turned, joined-leads, half_neighbour, neighbour_has}
use Rattle.seq_run.proofs.Waking.{with_number-same, with_number-other, with_number-holds}
use Rattle.full_scope.specs.FullUpdates.{Neighbour, Surroundings}
use Rattle.full_scope.specs.FullStates.{neighbour_at, seen_around, with_each, after_full}
use Rattle.full_scope.proofs.OneHalf.{half_ends}
use Rattle.full_scope.proofs.WithEach.{with_each-holds}
use Rattle.prog_match.specs.Pairs.{is_unmatched, least_unmatched, is_mate, update_of_pairs}

-- ---- the least unmatched neighbour

unmatched-yes : (n : Neighbour) (ns : List Neighbour) → is_unmatched n ≡ true → least_unmatched (n ∷ ns) ≡ min n.id (least_unmatched ns)
unmatched-yes n ns free = rw free refl

unmatched-no : (n : Neighbour) (ns : List Neighbour) → is_unmatched n ≡ false → least_unmatched (n ∷ ns) ≡ least_unmatched ns
unmatched-no n ns taken = rw taken refl

-- no neighbour is unmatched, or the least unmatched one is one of them
abbrev NoneOrLeast : (Neighbour → Type 0) → List Neighbour → Type 0
NoneOrLeast P ns =
    (AllByRecursion (λ n. is_unmatched n ≡ false) ns × (least_unmatched ns ≡ INF))
    ⊎ ((n : Neighbour) × P n × (is_unmatched n ≡ true) × (n.id ≡ least_unmatched ns))

none_or_least : (P : Neighbour → Type 0) → ((n : Neighbour) → P n → n.id < INF) → (ns : List Neighbour) → AllByRecursion P ns → NoneOrLeast P ns
none_or_least P low [] all = inl (tt, refl)
none_or_least P low (n ∷ ns) all =
    let rest = none_or_least P low ns all.1 in ⊎_elim
    (λ (free : is_unmatched n ≡ true).
    let here = unmatched-yes n ns free in
    let n_low = low n all.0 in ⊎_elim
    (λ (none : AllByRecursion (λ m. is_unmatched m ≡ false) ns × (least_unmatched ns ≡ INF)). let last = none.1 in inr (n, all.0, free, omega arith))
    (λ (some : (m : Neighbour) × P m × (is_unmatched m ≡ true) × (m.id ≡ least_unmatched ns)).
    let same = some.3 in
    let m = some.0.id in ⊎_elim
    (λ (less : n.id < m). inr (n, all.0, free, omega arith))
    (λ (more : m ≤ n.id). inr (some.0, some.1, some.2, omega arith))
    (cases_lt n.id m))
    rest)
    (λ (taken : is_unmatched n ≡ false).
    let here = unmatched-no n ns taken in ⊎_elim
    (λ (none : AllByRecursion (λ m. is_unmatched m ≡ false) ns × (least_unmatched ns ≡ INF)). inl ((taken, none.0), here ∙ none.1))
    (λ (some : (m : Neighbour) × P m × (is_unmatched m ≡ true) × (m.id ≡ least_unmatched ns)). inr (some.0, some.1, some.2, some.3 ∙ sym here))
    rest)
    (cases_Bool (is_unmatched n))

-- ---- edges between two vertices

-- the edge joins the two
abbrev pub Joins : DataEdge → ℕ → ℕ → Type 0
Joins e a b = ((e.from ≡ a) × (e.to ≡ b)) ⊎ ((e.from ≡ b) × (e.to ≡ a))

pub joins_cases : (e : DataEdge) (a b : ℕ) → (Joins e a b) ⊎ (Joins e a b → ⊥)
joins_cases e a b = ⊎_elim
    (λ (is : joins a b e ≡ true). ⊎_elim
    (λ (back : (e.from ≡ b) × (e.to ≡ a)). inl (inr back))
    (λ (on : (false ≡ false) × (e.from ≡ a) × (e.to ≡ b)). inl (inl (on.1, on.2)))
    (joined-leads a b e is))
    (λ (is_not : joins a b e ≡ false). inr (λ ends. true≢false (sym (⊎_elim
    (λ (on : (e.from ≡ a) × (e.to ≡ b)). joins-ends a b e on.0 on.1)
    (λ (back : (e.from ≡ b) × (e.to ≡ a)). joins-turned a b e back.0 back.1)
    ends) ∙ is_not)))
    (cases_Bool (joins a b e))

joins_back : (a b : ℕ) (e : DataEdge) → joins a b e ≡ true → joins b a e ≡ true
joins_back a b e joined = ⊎_elim
    (λ (back : (e.from ≡ b) × (e.to ≡ a)). joins-ends b a e back.0 back.1)
    (λ (on : (false ≡ false) × (e.from ≡ a) × (e.to ≡ b)). joins-turned b a e on.1 on.2)
    (joined-leads a b e joined)

-- neighbours are so both ways
pub neighbours_back : (g : DataGraph) (v u : ℕ) → AreNeighbours g v u → AreNeighbours g u v
neighbours_back g v u neighbours =
    let some = Any-from_list_any (joins v u) g.edges neighbours in
    list_any_at (joins u v) g.edges some.0 some.1 some.2 (rw some.3 (joins_back v u some.1 some.4))

module _ (g : DataGraph) (is : IsDataGraph g) where
  -- no identifier says that there is none
  pub id_low : (u : ℕ) → u < size g → slice_index g.ids u < INF
  id_low u within = let low = is.ids u 0 within in omega arith

  pub id_one : (u w : ℕ) → u < size g → w < size g → slice_index g.ids u ≡ slice_index g.ids w → u ≡ w
  id_one u w u_within w_within same = numbers_one g.ids u w is.ascending u_within w_within same

  -- ---- one update

  -- An update of v leaves everything as it was.
  pub record IsIdle (s : GraphState) (v : ℕ) : Type 0 where
    pub same : after_full g update_of_pairs s v ≡ s
    -- v was matched, or no neighbour is unmatched
    pub reason : (s.vertex v ≢ INF) ⊎ ((u : ℕ) → u < size g → AreNeighbours g v u → s.vertex u ≢ INF)

  -- An update of v matches it with its neighbour u.
  pub record Matches (s : GraphState) (v u : ℕ) : Type 0 where
    pub within : u < size g
    pub near : AreNeighbours g v u
    pub apart : u ≢ v
    -- both were unmatched
    pub own : s.vertex v ≡ INF
    pub other : s.vertex u ≡ INF
    -- each has the other's identifier
    pub new_own : (after_full g update_of_pairs s v).vertex v ≡ slice_index g.ids u
    pub new_other : (after_full g update_of_pairs s v).vertex u ≡ slice_index g.ids v
    pub same_vertex : (x : ℕ) → x ≢ v → x ≢ u → (after_full g update_of_pairs s v).vertex x ≡ s.vertex x
    -- the edge between them is 1
    pub new_edge : (k : ℕ) (e : DataEdge) → k < length g.edges → slice_index_or g.edges k e ≡ e → Joins e v u → (after_full g update_of_pairs s v).edge k ≡ 1
    pub same_edge : (k : ℕ) (e : DataEdge) → k < length g.edges → slice_index_or g.edges k e ≡ e → (Joins e v u → ⊥) → (after_full g update_of_pairs s v).edge k ≡ s.edge k

  module _ (s : GraphState) (v : ℕ) (v_within : v < size g) where
    abbrev seen : Surroundings
    seen = seen_around g s v

    abbrev near_value : DataHalf → ℕ
    near_value h = update_of_pairs.near seen (neighbour_at g s h)

    abbrev mark_value : DataHalf → ℕ
    mark_value h = update_of_pairs.mark seen (neighbour_at g s h)

    abbrev new : GraphState
    new = after_full g update_of_pairs s v

    -- no neighbour is the mate
    abbrev NoMate : DataHalf → Type 0
    NoMate h = is_mate seen (neighbour_at g s h) ≡ false

    near_kept : (h : DataHalf) → NoMate h → near_value h ≡ s.vertex h.other
    near_kept h none = rw none refl

    mark_kept : (h : DataHalf) → NoMate h → mark_value h ≡ s.edge h.edge
    mark_kept h none = rw none refl

    near_given : (h : DataHalf) → is_mate seen (neighbour_at g s h) ≡ true → near_value h ≡ slice_index g.ids v
    near_given h it_is = rw it_is refl

    mark_given : (h : DataHalf) → is_mate seen (neighbour_at g s h) ≡ true → mark_value h ≡ 1
    mark_given h it_is = rw it_is refl

    -- where nobody is the mate and the own number stays, all stays
    idle_vertex : update_of_pairs.number seen ≡ s.vertex v → AllByRecursion NoMate (halves_of g v) → (x : ℕ) → new.vertex x ≡ s.vertex x
    idle_vertex number none x =
        with_number-holds (λ i y. y ≡ s.vertex i) (with_each (λ h. h.other) near_value (halves_of g v) s.vertex) v (update_of_pairs.number seen) x
        (λ same. number)
        (λ other. with_each-holds (λ y. y ≡ s.vertex x) (λ h. h.other) near_value (halves_of g v) s.vertex x
        (each-weaker NoMate (λ h. x ≡ h.other → near_value h ≡ s.vertex x) (λ h free same. near_kept h free ∙ ap s.vertex (sym same)) (halves_of g v) none)
        (λ apart. refl))

    idle_edge : AllByRecursion NoMate (halves_of g v) → (k : ℕ) → new.edge k ≡ s.edge k
    idle_edge none k =
        with_each-holds (λ y. y ≡ s.edge k) (λ h. h.edge) mark_value (halves_of g v) s.edge k
        (each-weaker NoMate (λ h. k ≡ h.edge → mark_value h ≡ s.edge k) (λ h free same. mark_kept h free ∙ ap s.edge (sym same)) (halves_of g v) none)
        (λ apart. refl)

    idle_same : update_of_pairs.number seen ≡ s.vertex v → AllByRecursion NoMate (halves_of g v) → new ≡ s
    idle_same number none = λ i. record { vertex = λ x. idle_vertex number none x i; edge = λ k. idle_edge none k i }

    -- v was matched
    when_matched : s.vertex v ≢ INF → IsIdle s v
    when_matched matched =
        let own : (s.vertex v == INF) ≡ false = ne_eqb (s.vertex v) INF matched in
        record {
          same = idle_same (rw own refl) (each-weaker (IsHalfAt g is v) NoMate (λ h half. rw own refl) (halves_of g v) (halves_are g is v));
          reason = inl matched;
        }

    -- v is unmatched, and each neighbour is matched
    when_alone : s.vertex v ≡ INF → AllByRecursion (λ n. is_unmatched n ≡ false) seen.neighbours → least_unmatched seen.neighbours ≡ INF → IsIdle s v
    when_alone free none least =
        let own : (s.vertex v == INF) ≡ true = eq-eqb (s.vertex v) INF free in
        let taken = each-unmap (λ n. is_unmatched n ≡ false) (neighbour_at g s) (halves_of g v) none in
        record {
          same = idle_same (rw own (least ∙ sym free))
              (each-weaker (λ h. is_unmatched (neighbour_at g s h) ≡ false) NoMate (λ h not_free. rw (own, not_free) refl) (halves_of g v) taken);
          reason = inr (λ u within near. neighbour_has g is v u (λ w. s.vertex w ≢ INF) near
              (each-weaker (λ h. is_unmatched (neighbour_at g s h) ≡ false) (λ h. s.vertex h.other ≢ INF)
              (λ h not_free unmatched. true≢false (sym (eq-eqb (s.vertex h.other) INF unmatched) ∙ not_free)) (halves_of g v) taken));
        }

    -- the edge of a half whose number this is is this edge
    edge_same : (k : ℕ) (e : DataEdge) (h : DataHalf) (half : IsHalfAt g is v h) → k < length g.edges → slice_index_or g.edges k e ≡ e → k ≡ h.edge → half.edge ≡ e
    edge_same k e h half within at same =
        let number = half.number in
        let place : half.place ≡ k = omega arith in
        sym half.at ∙ ap (λ (i : ℕ). slice_index_or g.edges i half.edge) place ∙ get_or_default g.edges k half.edge e within ∙ at

    -- v and its neighbour u are unmatched, and u has the least identifier of all that are
    module _ (u : ℕ) (within : u < size g) (near : AreNeighbours g v u) (apart : u ≢ v) (free : s.vertex v ≡ INF) (other : s.vertex u ≡ INF) (least : slice_index g.ids u ≡ least_unmatched seen.neighbours) where
      own : (s.vertex v == INF) ≡ true
      own = eq-eqb (s.vertex v) INF free

      mate : (h : DataHalf) → h.other ≡ u → is_mate seen (neighbour_at g s h) ≡ true
      mate h same =
          let unmatched : (s.vertex h.other == INF) ≡ true = eq-eqb (s.vertex h.other) INF (ap s.vertex same ∙ other) in
          let identifier : (slice_index g.ids h.other == least_unmatched seen.neighbours) ≡ true =
          eq-eqb (slice_index g.ids h.other) (least_unmatched seen.neighbours) (ap (λ (w : ℕ). slice_index g.ids w) same ∙ least) in
          rw (own, unmatched, identifier) refl

      no_mate : (h : DataHalf) → IsHalfAt g is v h → h.other ≢ u → NoMate h
      no_mate h half differs =
          let differs_id : slice_index g.ids h.other ≢ least_unmatched seen.neighbours =
          λ same. differs (id_one h.other u (half_other g is v h half).0 within (same ∙ sym least)) in
          let identifier : (slice_index g.ids h.other == least_unmatched seen.neighbours) ≡ false = ne_eqb (slice_index g.ids h.other) (least_unmatched seen.neighbours) differs_id in ⊎_elim
          (λ (unmatched : (s.vertex h.other == INF) ≡ true). rw (own, unmatched, identifier) refl)
          (λ (matched : (s.vertex h.other == INF) ≡ false). rw (own, matched) refl)
          (cases_Bool (s.vertex h.other == INF))

      -- the other end of an edge at v that joins v and u
      other_is : (k : ℕ) (e : DataEdge) (h : DataHalf) (half : IsHalfAt g is v h) → half.edge ≡ e → Joins e v u → h.other ≡ u
      other_is k e h half same joined =
          let ends : Joins e v h.other = subst (λ (f : DataEdge). Joins f v h.other) same (half_ends g is v h half) in
          omega arith

      joined_by : (e : DataEdge) (h : DataHalf) (half : IsHalfAt g is v h) → half.edge ≡ e → h.other ≡ u → Joins e v u
      joined_by e h half same other_end = subst (λ (w : ℕ). Joins e v w) other_end (subst (λ (f : DataEdge). Joins f v h.other) same (half_ends g is v h half))

      -- an edge that joins v and u has a half at v
      no_half : (k : ℕ) (e : DataEdge) → k < length g.edges → slice_index_or g.edges k e ≡ e → Joins e v u → AllByRecursion (λ h. k ≢ h.edge) (halves_of g v) → ⊥
      no_half k e k_within at joined none = ⊎_elim
          (λ (on : (e.from ≡ v) × (e.to ≡ u)).
          has_half_out g is k e (λ h. k ≢ h.edge) k_within at (subst (λ w. AllByRecursion (λ h. k ≢ h.edge) (halves_of g w)) (sym on.0) none) refl)
          (λ (back : (e.from ≡ u) × (e.to ≡ v)).
          has_half_into g is k e (λ h. k ≢ h.edge) k_within at (subst (λ w. AllByRecursion (λ h. k ≢ h.edge) (halves_of g w)) (sym back.1) none) refl)
          joined

      when_two : Matches s v u
      when_two =
          let number = update_of_pairs.number seen in
          let ends = with_each (λ h. h.other) near_value (halves_of g v) s.vertex in
          record {
            within = within;
            near = near;
            apart = apart;
            own = free;
            other = other;
            new_own = with_number-same ends v number ∙ rw own (sym least);
            new_other = with_number-other ends v number u apart
                ∙ with_each-holds (λ y. y ≡ slice_index g.ids v) (λ h. h.other) near_value (halves_of g v) s.vertex u
                (each-weaker (IsHalfAt g is v) (λ h. u ≡ h.other → near_value h ≡ slice_index g.ids v) (λ h half same. near_given h (mate h (sym same))) (halves_of g v) (halves_are g is v))
                (λ none. absurd (neighbour_has g is v u (λ w. u ≢ w) near none refl));
            same_vertex = λ x not_v not_u. with_number-other ends v number x not_v
                ∙ with_each-holds (λ y. y ≡ s.vertex x) (λ h. h.other) near_value (halves_of g v) s.vertex x
                (each-weaker (IsHalfAt g is v) (λ h. x ≡ h.other → near_value h ≡ s.vertex x)
                (λ h half same. near_kept h (no_mate h half (λ is_u. not_u (same ∙ is_u))) ∙ ap s.vertex (sym same)) (halves_of g v) (halves_are g is v))
                (λ none. refl);
            new_edge = λ k e k_within at joined.
                with_each-holds (λ y. y ≡ 1) (λ h. h.edge) mark_value (halves_of g v) s.edge k
                (each-weaker (IsHalfAt g is v) (λ h. k ≡ h.edge → mark_value h ≡ 1)
                (λ h half same. mark_given h (mate h (other_is k e h half (edge_same k e h half k_within at same) joined))) (halves_of g v) (halves_are g is v))
                (λ none. absurd (no_half k e k_within at joined none));
            same_edge = λ k e k_within at not_joined.
                with_each-holds (λ y. y ≡ s.edge k) (λ h. h.edge) mark_value (halves_of g v) s.edge k
                (each-weaker (IsHalfAt g is v) (λ h. k ≡ h.edge → mark_value h ≡ s.edge k)
                (λ h half same. mark_kept h (no_mate h half (λ is_u. not_joined (joined_by e h half (edge_same k e h half k_within at same) is_u))) ∙ ap s.edge (sym same)) (halves_of g v) (halves_are g is v))
                (λ none. refl);
          }

    -- a neighbour that is seen, with its half
    abbrev IsSeen : Neighbour → Type 0
    IsSeen n = (h : DataHalf) × IsHalfAt g is v h × (n ≡ neighbour_at g s h)

    all_seen : AllByRecursion IsSeen seen.neighbours
    all_seen = each-map IsSeen (neighbour_at g s) (halves_of g v) (each-weaker (IsHalfAt g is v) (λ h. IsSeen (neighbour_at g s h)) (λ h half. (h, half, refl)) (halves_of g v) (halves_are g is v))

    seen_low : (n : Neighbour) → IsSeen n → n.id < INF
    seen_low n at = subst (λ (m : Neighbour). m.id < INF) (sym at.2) (id_low at.0.other (half_other g is v at.0 at.1).0)

    -- an update leaves everything as it was, or matches v with a neighbour
    pub idle_or_matches : (IsIdle s v) ⊎ ((u : ℕ) × Matches s v u)
    idle_or_matches = ⊎_elim
        (λ (free : s.vertex v ≡ INF). ⊎_elim
        (λ (none : AllByRecursion (λ n. is_unmatched n ≡ false) seen.neighbours × (least_unmatched seen.neighbours ≡ INF)). inl (when_alone free none.0 none.1))
        (λ (some : (n : Neighbour) × IsSeen n × (is_unmatched n ≡ true) × (n.id ≡ least_unmatched seen.neighbours)).
        let h = some.1.0 in
        let half = some.1.1 in
        let same = some.1.2 in
        let ends = half_other g is v h half in
        let unmatched : s.vertex h.other ≡ INF = sym (ap (λ (n : Neighbour). n.near.number) same) ∙ eqb-true some.0.near.number INF some.2 in
        inr (h.other, when_two h.other ends.0 (half_neighbour g is v h half) ends.1 free unmatched (sym (ap (λ (n : Neighbour). n.id) same) ∙ some.3)))
        (none_or_least IsSeen seen_low seen.neighbours all_seen))
        (λ (matched : s.vertex v ≡ INF → ⊥). inl (when_matched matched))
        (cases_eq (s.vertex v) INF)
