-- Both halves of each edge, in one list and by vertices.
use Rattle.std.proofs.Common.{◌≡◌, ℕ, zero, suc, ◌+◌, ◌*◌, ◌/◌, ◌%◌, ◌<◌, Bool, List, [], ◌∷◌, length, map, slice_get, Some, refl, sym, ◌∙◌, subst, ⊎_elim, All, arith}
use Rattle.std.proofs.lemmas.Bool.{cases_eq, eq-eqb, ne_eqb}
use Rattle.std.proofs.lemmas.List.Elements.{All-head, All-tail, All-nil, All-cons}
use Rattle.graph_core.specs.Halves.{halves_from}
use Rattle.graph_core.specs.declared.edges.Edge.{Edge}
use Rattle.graph_core.specs.Edges.{data_edge}
use Rattle.graph_core.specs.HalfRows.{data_half}
use Rattle.graph_core.specs.Inner.HalfPairs.{half_out, half_into, half_pairs}
use Rattle.graph_core.specs.Rows.{with_key}
use Rattle.graph_core.proofs.RowLemmas.{with_key-here, with_key-past}

pub length-half_pairs : (directed : Bool) (k : ℕ) (edges : List Edge) → length (half_pairs directed k edges) ≡ 2 * length edges
length-half_pairs directed k [] = refl
length-half_pairs directed k (e ∷ edges) = omega (arith, length-half_pairs directed (suc k) edges)

pub first_half_at : (directed : Bool) (k : ℕ) (edges : List Edge) (i : ℕ) (e : Edge) → slice_get edges i ≡ Some e → slice_get (half_pairs directed k edges) (2 * i) ≡ Some (e.from.0, half_out directed (k + i) e)
first_half_at directed k [] i e at = cc
first_half_at directed k (x ∷ edges) zero e at =
    let is : x ≡ e = cc in
    let n : k + 0 ≡ k = omega arith in
    rw (n, ← is) refl
first_half_at directed k (x ∷ edges) (suc i) e at =
    let twice : 2 * suc i ≡ suc (suc (2 * i)) = omega arith in
    let n : k + suc i ≡ suc k + i = omega arith in
    rw (twice, n) (first_half_at directed (suc k) edges i e at)

pub second_half_at : (directed : Bool) (k : ℕ) (edges : List Edge) (i : ℕ) (e : Edge) → slice_get edges i ≡ Some e → slice_get (half_pairs directed k edges) (suc (2 * i)) ≡ Some (e.to.0, half_into directed (k + i) e)
second_half_at directed k [] i e at = cc
second_half_at directed k (x ∷ edges) zero e at =
    let is : x ≡ e = cc in
    let n : k + 0 ≡ k = omega arith in
    rw (n, ← is) refl
second_half_at directed k (x ∷ edges) (suc i) e at =
    let twice : 2 * suc i ≡ suc (suc (2 * i)) = omega arith in
    let n : k + suc i ≡ suc k + i = omega arith in
    rw (twice, n) (second_half_at directed (suc k) edges i e at)

pub half_at_even : (directed : Bool) (edges : List Edge) (place : ℕ) (e : Edge) → place % 2 ≡ 0 → slice_get edges (place / 2) ≡ Some e → slice_get (half_pairs directed 0 edges) place ≡ Some (e.from.0, half_out directed (place / 2) e)
half_at_even directed edges place e even at =
    let is : place ≡ 2 * (place / 2) = omega arith in
    let n : 0 + place / 2 ≡ place / 2 = omega arith in
    let h = first_half_at directed 0 edges (place / 2) e at in
    let h' : slice_get (half_pairs directed 0 edges) (2 * (place / 2)) ≡ Some (e.from.0, half_out directed (place / 2) e) = rw n at h in
    subst (λ p. slice_get (half_pairs directed 0 edges) p ≡ Some (e.from.0, half_out directed (place / 2) e)) (sym is) h'

pub half_at_odd : (directed : Bool) (edges : List Edge) (place : ℕ) (e : Edge) → (place % 2 ≡ 0 → ⊥) → slice_get edges (place / 2) ≡ Some e → slice_get (half_pairs directed 0 edges) place ≡ Some (e.to.0, half_into directed (place / 2) e)
half_at_odd directed edges place e odd at =
    let is : place ≡ suc (2 * (place / 2)) = omega arith in
    let n : 0 + place / 2 ≡ place / 2 = omega arith in
    let h = second_half_at directed 0 edges (place / 2) e at in
    let h' : slice_get (half_pairs directed 0 edges) (suc (2 * (place / 2))) ≡ Some (e.to.0, half_into directed (place / 2) e) = rw n at h in
    subst (λ p. slice_get (half_pairs directed 0 edges) p ≡ Some (e.to.0, half_into directed (place / 2) e)) (sym is) h'

-- the row of a vertex has its half-edges
pub halves_are : (directed : Bool) (v k : ℕ) (edges : List Edge) → All (λ e. e.from.0 ≡ e.to.0 → ⊥) edges → map data_half (with_key v (half_pairs directed k edges)) ≡ halves_from directed v k (map data_edge edges)
halves_are directed v k [] apart = refl
halves_are directed v k (e ∷ edges) apart =
    let rest = halves_are directed v (suc k) edges (All-tail (λ x. x.from.0 ≡ x.to.0 → ⊥) e edges apart) in
    let here = All-head (λ x. x.from.0 ≡ x.to.0 → ⊥) e edges apart in
    let more = half_pairs directed (suc k) edges in
    ⊎_elim
    (λ (at : e.from.0 ≡ v).
    let off : e.to.0 ≡ v → ⊥ = λ q. here (at ∙ sym q) in
    rw (with_key-here v (e.from.0, half_out directed k e) ((e.to.0, half_into directed k e) ∷ more) at, with_key-past v (e.to.0, half_into directed k e) more off, eq-eqb e.from.0 v at, rest) refl)
    (λ off. ⊎_elim
    (λ (at : e.to.0 ≡ v).
    rw (with_key-past v (e.from.0, half_out directed k e) ((e.to.0, half_into directed k e) ∷ more) off, with_key-here v (e.to.0, half_into directed k e) more at, ne_eqb e.from.0 v off, eq-eqb e.to.0 v at, rest) refl)
    (λ off_to.
    rw (with_key-past v (e.from.0, half_out directed k e) ((e.to.0, half_into directed k e) ∷ more) off, with_key-past v (e.to.0, half_into directed k e) more off_to, ne_eqb e.from.0 v off, ne_eqb e.to.0 v off_to, rest) refl)
    (cases_eq e.to.0 v))
    (cases_eq e.from.0 v)

pub half_keys : (directed : Bool) (k n : ℕ) (edges : List Edge) → All (λ e. (e.from.0 < n) × (e.to.0 < n)) edges → All (λ pair. pair.0 < n) (half_pairs directed k edges)
half_keys directed k n [] inside = All-nil (λ pair. pair.0 < n)
half_keys directed k n (e ∷ edges) inside =
    let here = All-head (λ x. (x.from.0 < n) × (x.to.0 < n)) e edges inside in
    let rest = half_keys directed (suc k) n edges (All-tail (λ x. (x.from.0 < n) × (x.to.0 < n)) e edges inside) in
    All-cons (λ pair. pair.0 < n) (e.from.0, half_out directed k e) ((e.to.0, half_into directed k e) ∷ half_pairs directed (suc k) edges) here.0 (All-cons (λ pair. pair.0 < n) (e.to.0, half_into directed k e) (half_pairs directed (suc k) edges) here.1 rest)
