-- There is one greedy colouring, and it is proper.
use Rattle.std.proofs.Common.{◌≡◌, ℕ, zero, suc, ◌+◌, ◌<◌, ◌≤◌, Bool, true, false, ◌||◌, ◌&&◌, length, map, get_or, eqb, refl, sym, ap, ◌∙◌, ⊎_elim, Contains, All, arith}
use Rattle.std.proofs.lemmas.Bool.{cases_eq, cases_lt, eq-eqb, eqb-true}
use Rattle.std.proofs.lemmas.List.{get_or-map, length-map}
use Rattle.std.proofs.lemmas.List.Folds.{list_any_at}
use Rattle.std.proofs.lemmas.Map.Views.{Contains-from_any}
use Rattle.graph_core.specs.DataGraph.{DataEdge, DataGraph, IsDataGraph, IsEdge, size}
use Rattle.graph_core.specs.Colourings.{joins, degree_of, IsProperColouring}
use Rattle.graph_core.specs.Halves.{halves_of}
use Rattle.graph_core.specs.Neighbours.{neighbours_of}
use Rattle.graph_core.proofs.NeighbourLemmas.{halves_join}
use Rattle.graph_core.proofs.VertexLaws.{neighbours_same, degree_counts}
use Rattle.graph_core.specs.color_steps.Greedy.{HasLeastFree, IsGreedy}
use Rattle.graph_core.proofs.color_steps.FewTaken.{few_taken}

-- ---- there is one

not_less : (g : DataGraph) (f h : ℕ → ℕ) (v : ℕ) → ((u : ℕ) → u < v → f u ≡ h u) → HasLeastFree g f v → HasLeastFree g h v → f v < h v → ⊥
not_less g f h v same one other less =
    let (u, lower, is) = other.least (f v) one.from_one less in
    one.free u lower (same u lower.0 ∙ is)

neither_less : (a b : ℕ) → (a < b → ⊥) → (b < a → ⊥) → a ≡ b
neither_less a b no_less no_more =
    ⊎_elim
    (λ (l : a < b). absurd (no_less l))
    (λ (l : b ≤ a). ⊎_elim (λ (m : b < a). absurd (no_more m)) (λ (m : a ≤ b). omega arith) (cases_lt b a))
    (cases_lt a b)

pub greedy_same : (g : DataGraph) (f h : ℕ → ℕ) → IsGreedy g f → IsGreedy g h → (n : ℕ) → n ≤ size g → (v : ℕ) → v < n → f v ≡ h v
greedy_same g f h one other zero le v l = absurd (omega arith)
greedy_same g f h one other (suc n) le v l =
    let before = greedy_same g f h one other n (omega arith) in
    ⊎_elim
    (λ (is : v ≡ n).
    let same : (u : ℕ) → u < v → f u ≡ h u = λ u m. before u (omega arith) in
    let inside : v < size g = omega arith in
    let of_one = one v inside in
    let of_other = other v inside in
    neither_less (f v) (h v) (not_less g f h v same of_one of_other) (not_less g h f v (λ u m. sym (same u m)) of_other of_one))
    (λ off. before v (omega (arith, off)))
    (cases_eq v n)

-- ---- it is proper

near_from_joins : (g : DataGraph) (v u k : ℕ) (d : DataEdge) → IsDataGraph g → k < length g.edges → joins v u (get_or g.edges k d) ≡ true → Contains (neighbours_of g v) u
near_from_joins g v u k d so inside join =
    let apart : All (λ e. e.from ≡ e.to → ⊥) g.edges = λ i x l. (so.edges i x l).apart in
    let some = list_any_at (joins v u) g.edges k d inside join in
    (neighbours_same g v u so).1 (Contains-from_any eqb-true u (map (λ h. h.other) (halves_of g v)) (halves_join g.directed v u 0 g.edges apart ∙ some))

joins_on : (e : DataEdge) → joins e.from e.to e ≡ true
joins_on e = rw (eq-eqb e.from e.from refl, eq-eqb e.to e.to refl) refl

joins_back : (e : DataEdge) → joins e.to e.from e ≡ true
joins_back e = rw (eq-eqb e.from e.from refl, eq-eqb e.to e.to refl) (or_true (eqb e.from e.to && eqb e.to e.from))
  where
    or_true : (a : Bool) → (a || true) ≡ true
    or_true true = refl
    or_true false = refl

ends_apart : (g : DataGraph) (colour : ℕ → ℕ) → IsDataGraph g → IsGreedy g colour → All (λ e. colour e.from ≡ colour e.to → ⊥) g.edges
ends_apart g colour so is = λ k d inside.
    let e = get_or g.edges k d in
    let edge : IsEdge (size g) g.directed e = so.edges k d inside in
    ⊎_elim
    (λ (l : e.to < e.from). λ same.
    let near = near_from_joins g e.from e.to k d so inside (joins_on e) in
    (is e.from edge.from).free e.to (l, near) (sym same))
    (λ (le : e.from ≤ e.to).
    let near = near_from_joins g e.to e.from k d so inside (joins_back e) in
    (is e.to edge.to).free e.from (omega (arith, le, edge.apart), near))
    (cases_lt e.to e.from)

within_degree : (g : DataGraph) (colour : ℕ → ℕ) (v : ℕ) → HasLeastFree g colour v → colour v ≤ degree_of g v + 1
within_degree g colour v is =
    let ns = neighbours_of g v in
    let few = few_taken (colour v) (map colour ns)
    (λ j low high.
    let (u, lower, same) = is.least j low high in
    let (i, inside, read) = lower.1 in
    (i, omega (arith, inside, length-map ns colour), get_or-map colour ns i u j inside ∙ ap colour read ∙ same)) in
    omega (arith, few, length-map ns colour, degree_counts g v)

pub greedy_proper : (g : DataGraph) (colour : ℕ → ℕ) → IsDataGraph g → IsGreedy g colour → IsProperColouring g colour
greedy_proper g colour so is =
    record {
      apart = ends_apart g colour so is;
      low = λ v l. (is v l).from_one;
      high = λ v l. within_degree g colour v (is v l);
    }
