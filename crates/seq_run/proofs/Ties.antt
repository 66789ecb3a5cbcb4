-- How many halves lead to a set of vertices, and how many neighbours are in it.
use Rattle.std.proofs.Common.{◌≡◌, ◌≢◌, ◌⊎◌, ℕ, zero, suc, ◌+◌, ◌<◌, ◌≤◌, ◌==◌, ◌&&◌, ◌||◌, if◌then◌else◌, Bool, true, false, List, [], ◌∷◌, ◌++◌, length, slice_index_or, All, AllPairs, refl, sym, ◌∙◌, ap, inl, inr, ⊎_elim, true≢false, arith, eq-eqb, ne_eqb, eqb-true, le_trans}
use Rattle.std.specs.List.{AllByRecursion, list_any}
use Rattle.std.proofs.lemmas.Bool.{cases_Bool, cases_eq, or_cases, or_left, or_right, and_parts, and_from, and_left, false_from_ne_true}
use Rattle.std.proofs.lemmas.List.Elements.{All-head, All-tail}
use Rattle.std.proofs.lemmas.List.Folds.{list_any_none}
use Rattle.graph_core.specs.DataGraph.{DataEdge, DataGraph, IsBefore, IsEdge}
use Rattle.graph_core.specs.Colourings.{joins}
use Rattle.graph_core.specs.Halves.{DataHalf, half_at, halves_from}
use Rattle.seq_run.specs.CoreNumbers.{neighbours_below}
use Rattle.seq_run.proofs.Neighbours.{joins-ends, joins-turned}
use Rattle.seq_run.proofs.Sums.{count_below, sum_below-mono, sum_below-add, count_below-mono, count_below-less, count_below-same, count_below-nothing}

-- how many of these halves lead to the set
abbrev pub ties : (ℕ → Bool) → List DataHalf → ℕ
ties members [] = 0
ties members (h ∷ halves) = (if members h.other then 1 else 0) + ties members halves

pub ties-append : (members : ℕ → Bool) (xs ys : List DataHalf) → ties members (xs ++ ys) ≡ ties members xs + ties members ys
ties-append members [] ys = omega arith
ties-append members (h ∷ xs) ys = let rest = ties-append members xs ys in omega arith

pub ties-mono : (p q : ℕ → Bool) (halves : List DataHalf) → AllByRecursion (λ h. p h.other ≡ true → q h.other ≡ true) halves → ties p halves ≤ ties q halves
ties-mono p q [] each = omega arith
ties-mono p q (h ∷ halves) each =
    let rest = ties-mono p q halves each.1 in ⊎_elim
    (λ (holds : p h.other ≡ true). rw (holds, each.0 holds) (omega arith))
    (λ (fails : p h.other ≡ false). rw fails (omega arith))
    (cases_Bool (p h.other))

pub ties-le-length : (members : ℕ → Bool) (halves : List DataHalf) → ties members halves ≤ length halves
ties-le-length members [] = omega arith
ties-le-length members (h ∷ halves) = let rest = ties-le-length members halves in ⊎_elim
    (λ (holds : members h.other ≡ true). rw holds (omega arith))
    (λ (fails : members h.other ≡ false). rw fails (omega arith))
    (cases_Bool (members h.other))

pub ties-all : (halves : List DataHalf) → ties (λ u. true) halves ≡ length halves
ties-all [] = refl
ties-all (h ∷ halves) = let rest = ties-all halves in omega arith

-- how many members below n an edge of the list joins with v
abbrev pub joined_below : (ℕ → Bool) → ℕ → List DataEdge → ℕ → ℕ
joined_below members v edges n = count_below (λ u. list_any (joins v u) edges && members u) n

pub neighbours-count : (g : DataGraph) (members : ℕ → Bool) (v n : ℕ) → neighbours_below g members v n ≡ joined_below members v g.edges n
neighbours-count g members v zero = refl
neighbours-count g members v (suc n) = ap (λ (m : ℕ). (if list_any (joins v n) g.edges && members n then 1 else 0) + m) (neighbours-count g members v n)

-- the end that an edge has at v, if it has one, says whom it joins with v
joins-from : (v u : ℕ) (e : DataEdge) → e.from ≢ e.to → e.from ≡ v → joins v u e ≡ true → e.to ≡ u
joins-from v u e apart from joined = ⊎_elim
    (λ (on : (e.from == v && e.to == u) ≡ true). eqb-true e.to u (and_parts (e.from == v) (e.to == u) on).1)
    (λ (back : (e.from == u && e.to == v) ≡ true). absurd (apart (from ∙ sym (eqb-true e.to v (and_parts (e.from == u) (e.to == v) back).1))))
    (or_cases (e.from == v && e.to == u) (e.from == u && e.to == v) joined)

joins-to : (v u : ℕ) (e : DataEdge) → e.from ≢ v → joins v u e ≡ true → (e.to ≡ v) × (e.from ≡ u)
joins-to v u e not_from joined = ⊎_elim
    (λ (on : (e.from == v && e.to == u) ≡ true). absurd (not_from (eqb-true e.from v (and_parts (e.from == v) (e.to == u) on).0)))
    (λ (back : (e.from == u && e.to == v) ≡ true).
    let parts = and_parts (e.from == u) (e.to == v) back in (eqb-true e.to v parts.1, eqb-true e.from u parts.0))
    (or_cases (e.from == v && e.to == u) (e.from == u && e.to == v) joined)

-- at most one vertex is the other end, and it is counted where it is a member
one_other : (members : ℕ → Bool) (o n : ℕ) → count_below (λ u. o == u && members u) n ≤ (if members o then 1 else 0)
one_other members o n = ⊎_elim
    (λ (holds : members o ≡ true). rw holds
    (le_trans (count_below-mono (λ u. o == u && members u) (λ u. o == u) n (λ u within both. (and_parts (o == u) (members u) both).0)) (count_below-same o n)))
    (λ (fails : members o ≡ false). rw fails
    (let none = count_below-mono (λ u. o == u && members u) (λ u. false) n
    (λ u within both.
    let parts = and_parts (o == u) (members u) both in
    absurd (true≢false (sym parts.1 ∙ ap members (sym (eqb-true o u parts.0)) ∙ fails))) in
    let nothing = count_below-nothing n in omega arith))
    (cases_Bool (members o))

bit_or : (a b m : Bool) → (if (a || b) && m then 1 else 0) ≤ (if a && m then 1 else 0) + (if b && m then 1 else 0)
bit_or true b m = omega arith
bit_or false b m = omega arith

module _ (members : ℕ → Bool) (v n : ℕ) where
  joined_below-cons : (e : DataEdge) (edges : List DataEdge) → joined_below members v (e ∷ edges) n ≤ count_below (λ u. joins v u e && members u) n + joined_below members v edges n
  joined_below-cons e edges =
      let both = sum_below-mono (λ u. if list_any (joins v u) (e ∷ edges) && members u then 1 else 0) (λ u. (if joins v u e && members u then 1 else 0) + (if list_any (joins v u) edges && members u then 1 else 0)) n
      (λ u within. bit_or (joins v u e) (list_any (joins v u) edges) (members u)) in
      let sums = sum_below-add (λ u. if joins v u e && members u then 1 else 0) (λ u. if list_any (joins v u) edges && members u then 1 else 0) n in
      omega arith

  joined_below-more : (e : DataEdge) (edges : List DataEdge) → joined_below members v edges n ≤ joined_below members v (e ∷ edges) n
  joined_below-more e edges =
      count_below-mono (λ u. list_any (joins v u) edges && members u) (λ u. list_any (joins v u) (e ∷ edges) && members u) n
      (λ u within both.
      let parts = and_parts (list_any (joins v u) edges) (members u) both in
      and_from (list_any (joins v u) (e ∷ edges)) (members u) (or_right (joins v u e) (list_any (joins v u) edges) parts.0) parts.1)

  -- the half that an edge has at v
  first_from : (directed : Bool) (k : ℕ) (e : DataEdge) → e.from ≡ v → ties members (half_at directed v k e) ≡ (if members e.to then 1 else 0) + 0
  first_from directed k e from = rw (eq-eqb e.from v from) refl

  first_to : (directed : Bool) (k : ℕ) (e : DataEdge) → e.from ≢ v → e.to ≡ v → ties members (half_at directed v k e) ≡ (if members e.from then 1 else 0) + 0
  first_to directed k e not_from to = rw (ne_eqb e.from v not_from, eq-eqb e.to v to) refl

  first_none : (directed : Bool) (k : ℕ) (e : DataEdge) → e.from ≢ v → e.to ≢ v → ties members (half_at directed v k e) ≡ 0
  first_none directed k e not_from not_to = rw (ne_eqb e.from v not_from, ne_eqb e.to v not_to) refl

  -- the vertex that one edge joins with v has its half
  first_low : (directed : Bool) (k : ℕ) (e : DataEdge) → e.from ≢ e.to → count_below (λ u. joins v u e && members u) n ≤ ties members (half_at directed v k e)
  first_low directed k e apart = ⊎_elim
      (λ (from : e.from ≡ v).
      let mono = count_below-mono (λ u. joins v u e && members u) (λ u. e.to == u && members u) n
      (λ u within both.
      let parts = and_parts (joins v u e) (members u) both in
      and_from (e.to == u) (members u) (eq-eqb e.to u (joins-from v u e apart from parts.0)) parts.1) in
      let one = one_other members e.to n in
      let half = first_from directed k e from in omega arith)
      (λ (not_from : e.from ≡ v → ⊥). ⊎_elim
      (λ (to : e.to ≡ v).
      let mono = count_below-mono (λ u. joins v u e && members u) (λ u. e.from == u && members u) n
      (λ u within both.
      let parts = and_parts (joins v u e) (members u) both in
      and_from (e.from == u) (members u) (eq-eqb e.from u (joins-to v u e not_from parts.0).1) parts.1) in
      let one = one_other members e.from n in
      let half = first_to directed k e not_from to in omega arith)
      (λ (not_to : e.to ≡ v → ⊥).
      let mono = count_below-mono (λ u. joins v u e && members u) (λ u. false) n
      (λ u within both. absurd (not_to (joins-to v u e not_from (and_parts (joins v u e) (members u) both).0).0)) in
      let nothing = count_below-nothing n in omega arith)
      (cases_eq e.to v))
      (cases_eq e.from v)

  -- neighbours are no more than halves
  pub joined_below-le-ties : (directed : Bool) (k : ℕ) (edges : List DataEdge) → All (λ e. e.from ≢ e.to) edges → joined_below members v edges n ≤ ties members (halves_from directed v k edges)
  joined_below-le-ties directed k [] apart = let nothing = count_below-nothing n in omega arith
  joined_below-le-ties directed k (e ∷ edges) apart =
      let cons = joined_below-cons e edges in
      let first = first_low directed k e (All-head (λ (f : DataEdge). f.from ≢ f.to) e edges apart) in
      let rest = joined_below-le-ties directed (suc k) edges (All-tail (λ (f : DataEdge). f.from ≢ f.to) e edges apart) in
      let sums = ties-append members (half_at directed v k e) (halves_from directed v (suc k) edges) in
      omega arith

  -- among edges that ascend and have no direction no second one joins the same two
  no_second : (o : ℕ) (e : DataEdge) (edges : List DataEdge) → All (IsEdge n false) (e ∷ edges) → AllPairs IsBefore (e ∷ edges) → ((e.from ≡ v) × (e.to ≡ o)) ⊎ ((e.from ≡ o) × (e.to ≡ v)) → list_any (joins v o) edges ≡ false
  no_second o e edges are ascend ends =
      list_any_none (joins v o) edges
      (λ i d within. false_from_ne_true (joins v o (slice_index_or edges i d)) (λ joined.
      let f = slice_index_or edges i d in
      let e_lower : e.from < e.to = (All-head (IsEdge n false) e edges are).lower refl in
      let f_lower : f.from < f.to = (All-tail (IsEdge n false) e edges are i d within).lower refl in
      let before : IsBefore e f = ascend 0 (suc i) d (omega arith) (omega arith) in
      let f_ends : ((f.from ≡ v) × (f.to ≡ o)) ⊎ ((f.from ≡ o) × (f.to ≡ v)) = ⊎_elim
      (λ (on : (f.from == v && f.to == o) ≡ true). let parts = and_parts (f.from == v) (f.to == o) on in inl (eqb-true f.from v parts.0, eqb-true f.to o parts.1))
      (λ (back : (f.from == o && f.to == v) ≡ true). let parts = and_parts (f.from == o) (f.to == v) back in inr (eqb-true f.from o parts.0, eqb-true f.to v parts.1))
      (or_cases (f.from == v && f.to == o) (f.from == o && f.to == v) joined) in
      omega arith))

  -- one more edge adds its other end, where that is a member
  one_more : (o : ℕ) (e : DataEdge) (edges : List DataEdge) → o < n → All (IsEdge n false) (e ∷ edges) → AllPairs IsBefore (e ∷ edges) → ((e.from ≡ v) × (e.to ≡ o)) ⊎ ((e.from ≡ o) × (e.to ≡ v)) → joined_below members v edges n + (if members o then 1 else 0) ≤ joined_below members v (e ∷ edges) n
  one_more o e edges within are ascend ends = ⊎_elim
      (λ (holds : members o ≡ true). rw holds
      (let joined : joins v o e ≡ true = ⊎_elim
      (λ (w : (e.from ≡ v) × (e.to ≡ o)). joins-ends v o e w.0 w.1)
      (λ (w : (e.from ≡ o) × (e.to ≡ v)). joins-turned v o e w.0 w.1)
      ends in
      let less = count_below-less (λ u. list_any (joins v u) edges && members u) (λ u. list_any (joins v u) (e ∷ edges) && members u) o n within
      (λ u u_within both.
      let parts = and_parts (list_any (joins v u) edges) (members u) both in
      and_from (list_any (joins v u) (e ∷ edges)) (members u) (or_right (joins v u e) (list_any (joins v u) edges) parts.0) parts.1)
      (and_left (list_any (joins v o) edges) (members o) (no_second o e edges are ascend ends))
      (and_from (list_any (joins v o) (e ∷ edges)) (members o) (or_left (joins v o e) (list_any (joins v o) edges) joined) holds) in
      omega arith))
      (λ (fails : members o ≡ false). rw fails (let more = joined_below-more e edges in omega arith))
      (cases_Bool (members o))

  -- and where edges have no direction halves are no more than neighbours
  pub ties-le-joined_below : (k : ℕ) (edges : List DataEdge) → All (IsEdge n false) edges → AllPairs IsBefore edges → ties members (halves_from false v k edges) ≤ joined_below members v edges n
  ties-le-joined_below k [] are ascend = omega arith
  ties-le-joined_below k (e ∷ edges) are ascend =
      let edge = All-head (IsEdge n false) e edges are in
      let rest = ties-le-joined_below (suc k) edges (All-tail (IsEdge n false) e edges are) (λ i j d low high. ascend (suc i) (suc j) d (omega arith) (omega arith)) in
      let sums = ties-append members (half_at false v k e) (halves_from false v (suc k) edges) in
      let first : joined_below members v edges n + ties members (half_at false v k e) ≤ joined_below members v (e ∷ edges) n = ⊎_elim
      (λ (from : e.from ≡ v). let more = one_more e.to e edges edge.to are ascend (inl (from, refl)) in let half = first_from false k e from in omega arith)
      (λ (not_from : e.from ≡ v → ⊥). ⊎_elim
      (λ (to : e.to ≡ v). let more = one_more e.from e edges edge.from are ascend (inr (refl, to)) in let half = first_to false k e not_from to in omega arith)
      (λ (not_to : e.to ≡ v → ⊥). let more = joined_below-more e edges in let half = first_none false k e not_from not_to in omega arith)
      (cases_eq e.to v))
      (cases_eq e.from v) in
      omega arith
