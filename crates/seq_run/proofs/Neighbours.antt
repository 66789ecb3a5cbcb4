-- Halves and neighbours: each neighbour has a half, and each half leads to a neighbour.
use Rattle.std.proofs.Common.{◌≡◌, ℕ, zero, suc, ◌+◌, ◌==◌, ◌&&◌, if◌then◌else◌, true, false, List, [], ◌∷◌, map, refl, sym, ap, inl, inr, ⊎_elim, eq-eqb, eqb-true}
use Rattle.std.specs.List.{AllByRecursion, list_any}
use Rattle.std.proofs.lemmas.Bool.{or_cases, and_parts, and_from, or_left, or_right}
use Rattle.std.proofs.lemmas.List.Folds.{list_any_at, Any-from_list_any}
use Rattle.graph_core.specs.DataGraph.{DataEdge, DataGraph, IsDataGraph}
use Rattle.graph_core.specs.Colourings.{joins, degree_below}
use Rattle.graph_core.specs.Walks.{Leads}
use Rattle.graph_core.specs.Halves.{DataHalf, halves_of}
use Rattle.graph_core.proofs.HalvesLaws.{half_out, half_into, IsHalfAt, has_half_between}
use Rattle.seq_run.specs.FirstColours.{AreNeighbours}
use Rattle.seq_run.proofs.Sums.{count_below}

pub each-map : {X Y : Type 0} (P : Y → Type 0) (f : X → Y) (xs : List X) → AllByRecursion (λ x. P (f x)) xs → AllByRecursion P (map f xs)
each-map P f [] each = tt
each-map P f (x ∷ xs) each = (each.0, each-map P f xs each.1)

pub each-unmap : {X Y : Type 0} (P : Y → Type 0) (f : X → Y) (xs : List X) → AllByRecursion P (map f xs) → AllByRecursion (λ x. P (f x)) xs
each-unmap P f [] each = tt
each-unmap P f (x ∷ xs) each = (each.0, each-unmap P f xs each.1)

-- the two ends of an edge are joined by it, whichever way they are named
pub joins-ends : (a b : ℕ) (e : DataEdge) → e.from ≡ a → e.to ≡ b → joins a b e ≡ true
joins-ends a b e from to = or_left (e.from == a && e.to == b) (e.from == b && e.to == a) (and_from (e.from == a) (e.to == b) (eq-eqb e.from a from) (eq-eqb e.to b to))

pub joins-turned : (a b : ℕ) (e : DataEdge) → e.from ≡ b → e.to ≡ a → joins a b e ≡ true
joins-turned a b e from to = or_right (e.from == a && e.to == b) (e.from == b && e.to == a) (and_from (e.from == b) (e.to == a) (eq-eqb e.from b from) (eq-eqb e.to a to))

pub joined-leads : (a b : ℕ) (e : DataEdge) → joins a b e ≡ true → Leads false e b a
joined-leads a b e joined = ⊎_elim
    (λ (on : (e.from == a && e.to == b) ≡ true).
    let parts = and_parts (e.from == a) (e.to == b) on in
    inr (refl, eqb-true e.from a parts.0, eqb-true e.to b parts.1))
    (λ (back : (e.from == b && e.to == a) ≡ true).
    let parts = and_parts (e.from == b) (e.to == a) back in
    inl (eqb-true e.from b parts.0, eqb-true e.to a parts.1))
    (or_cases (e.from == a && e.to == b) (e.from == b && e.to == a) joined)

pub degree-count : (g : DataGraph) (v n : ℕ) → degree_below g v n ≡ count_below (λ u. list_any (joins v u) g.edges) n
degree-count g v zero = refl
degree-count g v (suc n) = ap (λ (m : ℕ). (if list_any (joins v n) g.edges then 1 else 0) + m) (degree-count g v n)

module _ (g : DataGraph) (is : IsDataGraph g) where
  -- the other end of a half is a neighbour
  pub half_neighbour : (v : ℕ) (h : DataHalf) → IsHalfAt g is v h → AreNeighbours g v h.other
  half_neighbour v h half =
      let here : joins v h.other half.edge ≡ true = ⊎_elim
      (λ (w : (half.edge.from ≡ v) × (h ≡ half_out g.directed h.edge half.edge)). joins-ends v h.other half.edge w.0 (sym (ap (λ (k : DataHalf). k.other) w.1)))
      (λ (w : (half.edge.to ≡ v) × (h ≡ half_into g.directed h.edge half.edge)). joins-turned v h.other half.edge (sym (ap (λ (k : DataHalf). k.other) w.1)) w.0)
      half.end in
      list_any_at (joins v h.other) g.edges half.place half.edge half.within (rw half.at here)

  -- what holds of the other ends of all halves at v holds of each neighbour
  pub neighbour_has : (v u : ℕ) (P : ℕ → Type 0) → AreNeighbours g v u → AllByRecursion (λ h. P h.other) (halves_of g v) → P u
  neighbour_has v u P neighbours all =
      let some = Any-from_list_any (joins v u) g.edges neighbours in
      has_half_between g is some.0 some.1 u v P some.2 some.3 (joined-leads v u some.1 some.4) all
