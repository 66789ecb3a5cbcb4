-- Atoms of any weights can be placed on one machine or more.
use Rattle.std.proofs.Common.{◌≡◌, ℕ, zero, suc, ◌+◌, ◌<◌, ◌≤◌, inl, inr, List, length, slice_index, subst, arith}
use Rattle.std.specs.Prelude.{replicate}
use Rattle.std.proofs.lemmas.Bool.{cases_lt}
use Rattle.std.proofs.lemmas.List.{get_or-replicate, get_or_past, length-replicate}
use Rattle.graph_atoms.specs.atom_place.Placing.{IsFalling, IsLeastLoaded, IsPlacing}
use Rattle.graph_atoms.proofs.atom_place.LoadLemmas.{IsPlacing-from_placed, Placed, Placed-more, Placed-none, order-below}
use Rattle.engine_runs.proofs.placement_is_unique.FallingMade.{falling_order}

-- of one machine or more one is the least loaded
least_of : (load : ℕ → ℕ) (machines : ℕ) → 1 ≤ machines → (m : ℕ) × IsLeastLoaded load machines m
least_of load zero some = absurd (omega arith)
least_of load (suc machines) some = elim (cases_lt 0 machines) [
  | inr none ↦ (0, record { below = omega arith; least = λ k low. subst (λ (n : ℕ). load 0 ≤ load n) (zero_is k low none) (omega arith); lower = λ k low. absurd (omega arith) })
  | inl more ↦
      let before : (m : ℕ) × IsLeastLoaded load machines m = least_of load machines more in
      elim (cases_lt (load machines) (load before.0)) [
        | inl less ↦ (
          machines,
          record {
            below = omega arith;
            least = λ k low. elim (cases_lt k machines) [
              | inl earlier ↦ omega (arith, before.1.least k earlier)
              | inr last ↦ subst (λ (n : ℕ). load machines ≤ load n) (last_is k low last) (omega arith)
            ];
            lower = λ k low. omega (arith, before.1.least k low);
          },
        )
        | inr as_much ↦ (
          before.0,
          record {
            below = omega (arith, before.1.below);
            least = λ k low. elim (cases_lt k machines) [
              | inl earlier ↦ before.1.least k earlier
              | inr last ↦ subst (λ (n : ℕ). load before.0 ≤ load n) (last_is k low last) as_much
            ];
            lower = before.1.lower;
          },
        )
      ]
]
  where
    zero_is : (k : ℕ) → k < suc machines → machines ≤ 0 → 0 ≡ k
    zero_is k low none = omega arith

    last_is : (k : ℕ) → k < suc machines → machines ≤ k → machines ≡ k
    last_is k low last = omega arith

-- these are the owners and loads where so many atoms of the order are placed
record HasPlaced (weights order : List ℕ) (machines i : ℕ) : Type 0 where
  owners : List ℕ
  loads : List ℕ
  placed : Placed weights order owners loads machines i

place_first : (weights order : List ℕ) (machines : ℕ) → 1 ≤ machines → IsFalling weights order → (i : ℕ) → i ≤ length order → HasPlaced weights order machines i
place_first weights order machines some falling zero few =
    record {
      owners = replicate (length weights) 0;
      loads = replicate machines 0;
      placed = Placed-none weights order (replicate (length weights) 0) (replicate machines 0) machines (length-replicate {A = ℕ} (length weights) 0) (length-replicate {A = ℕ} machines 0) nothing;
    }
  where
    nothing : (m : ℕ) → slice_index (replicate machines 0) m ≡ 0
    nothing m = elim (cases_lt m machines) [
      | inl low ↦ get_or-replicate {A = ℕ} machines m 0 0 low
      | inr past ↦ get_or_past (replicate machines 0) m 0 (omega (arith, length-replicate {A = ℕ} machines 0))
    ]
place_first weights order machines some falling (suc i) few =
    let before : HasPlaced weights order machines i = place_first weights order machines some falling i (omega arith) in
    let inside : i < length order = omega arith in
    let least : (m : ℕ) × IsLeastLoaded (slice_index before.loads) machines m = least_of (slice_index before.loads) machines some in
    let next : i + 1 ≡ suc i = omega arith in
    let more = Placed-more weights order before.owners before.loads machines i least.0 falling before.placed inside (order-below weights order i falling inside) least.1 in
    record { owners = _; loads = _; placed = subst (Placed weights order _ _ machines) next more }

-- all of them
pub placing_of : (weights : List ℕ) (machines : ℕ) → 1 ≤ machines → (owners : List ℕ) × IsPlacing weights machines owners
placing_of weights machines some =
    let falling = falling_order weights in
    let made : HasPlaced weights falling.0 machines (length falling.0) = place_first weights falling.0 machines some falling.1 (length falling.0) (omega arith) in
    (made.owners, IsPlacing-from_placed weights falling.0 made.owners made.loads machines (length falling.0) falling.1 made.placed (omega arith))
