-- A graph is cut and placed in one way.
use Rattle.std.proofs.Common.{◌≡◌, ℕ, ◌<◌, ◌≤◌, inl, inr, List, slice_index, sym, ap₂, ◌∙◌, subst, arith}
use Rattle.std.proofs.lemmas.Bool.{cases_lt}
use Rattle.std.proofs.lemmas.Grind.{same_number_lists}
use Rattle.graph_atoms.specs.atom_cut.Cuts.{IsGrowthCut, atom_numbers}
use Rattle.graph_atoms.specs.atom_gather.Cuts.{IsCutBy, atoms_of}
use Rattle.graph_atoms.specs.declared.atom_gather.cuts.Cut.{Cut}
use Rattle.graph_atoms.specs.declared.atom_gather.cuts.Cut.TheVariants.{Grown, Told}
use Rattle.graph_atoms.specs.atom_place.Placing.{IsPlacing}
use Rattle.graph_core.specs.DataGraph.{DataGraph, size}
use Rattle.placement.specs.plans.Plays.{IsCutAndPlaced, IsPlacement, atom_weights, machine_numbers}
use Rattle.engine_runs.proofs.placement_is_unique.GrowthPlaces.{place_in_growth}
use Rattle.engine_runs.proofs.placement_is_unique.Placings.{placings_are_one}

-- two cuts by growth into as many atoms are one
cuts_are_one : (g : DataGraph) (atoms : ℕ) (of other : List ℕ) → IsGrowthCut g atoms of → IsGrowthCut g atoms other → of ≡ other
cuts_are_one g atoms of other cut too =
    same_number_lists of other (cut.each ∙ sym too.each) (λ v low.
    let at = place_in_growth g v (subst (λ (n : ℕ). v < n) cut.each low) in
    subst (λ (u : ℕ). slice_index of u ≡ slice_index other u) at.2 (cut.place at.0 at.1 ∙ sym (too.place at.0 at.1)))

-- whether the graph was cut by its growth or as it was told
same_cut : (g : DataGraph) (cut : Cut) (of other : List ℕ) → IsCutBy g cut of → IsCutBy g cut other → of ≡ other
same_cut g (Grown atoms) of other by too = cuts_are_one g atoms of other by too
same_cut g (Told atoms told) of other by too = by ∙ sym too

module _ (g : DataGraph) (cut : Cut) (machines : ℕ) (owner other : ℕ → ℕ) where
  -- each vertex is in the same atom, and the atom on the same machine
  several_agree : IsCutAndPlaced g cut machines owner → IsCutAndPlaced g cut machines other → (v : ℕ) → owner v ≡ other v
  several_agree placed too v =
      let one : atom_numbers placed.of ≡ atom_numbers too.of = same_cut g cut (atom_numbers placed.of) (atom_numbers too.of) placed.by too.by in
      let placing : IsPlacing (atom_weights g (atom_numbers too.of) (atoms_of cut)) machines (machine_numbers placed.on) =
      subst (λ (of : List ℕ). IsPlacing (atom_weights g of (atoms_of cut)) machines (machine_numbers placed.on)) one placed.placing in
      let on : machine_numbers placed.on ≡ machine_numbers too.on =
      placings_are_one (atom_weights g (atom_numbers too.of) (atoms_of cut)) machines (machine_numbers placed.on) (machine_numbers too.on) placing too.placing in
      placed.owns v ∙ ap₂ (λ (hosts of : List ℕ). slice_index hosts (slice_index of v)) on one ∙ sym (too.owns v)

  pub owners_agree : 1 ≤ machines → IsPlacement g cut machines owner → IsPlacement g cut machines other → (v : ℕ) → owner v ≡ other v
  owners_agree some placement too v = elim (cases_lt 1 machines) [
    | inl many ↦ several_agree (placement.several many) (too.several many) v
    | inr few ↦
        let one : machines ≡ 1 = omega arith in
        placement.one one v ∙ sym (too.one one v)
  ]

-- so do they at each vertex of the graph
pub placed_once : (g : DataGraph) (cut : Cut) (machines : ℕ) → 1 ≤ machines → (owner other : ℕ → ℕ) → IsPlacement g cut machines owner → IsPlacement g cut machines other → (v : ℕ) → v < size g → owner v ≡ other v
placed_once g cut machines some owner other placement too v low = owners_agree g cut machines owner other some placement too v
