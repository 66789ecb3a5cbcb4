-- Each graph can be cut and placed.
use Rattle.std.proofs.Common.{◌≡◌, ℕ, ◌≤◌, inl, inr, List, [], ◌∷◌, map, refl, sym, ap, subst, arith}
use Rattle.std.proofs.lemmas.Bool.{cases_lt}
use Rattle.gl_base.specs.declared.numbers.AtomNo.{AtomNo}
use Rattle.gl_base.specs.declared.numbers.MachineNo.{MachineNo}
use Rattle.graph_atoms.specs.atom_cut.Cuts.{IsGrowthCut, atom_numbers}
use Rattle.graph_atoms.specs.atom_gather.Cuts.{IsCutBy, atoms_of}
use Rattle.graph_atoms.specs.declared.atom_gather.cuts.Cut.{Cut}
use Rattle.graph_atoms.specs.declared.atom_gather.cuts.Cut.TheVariants.{Grown, Told}
use Rattle.graph_atoms.specs.atom_place.Placing.{IsPlacing}
use Rattle.graph_core.specs.DataGraph.{DataGraph}
use Rattle.placement.specs.plans.Plays.{IsCutAndPlaced, IsPlacement, atom_weights, machine_numbers, placed_owner}
use Rattle.engine_runs.proofs.placement_is_unique.GrowthCuts.{growth_cut}
use Rattle.engine_runs.proofs.placement_is_unique.PlacingsMade.{placing_of}

-- numbers as those of atoms, and of machines
atoms_numbered : List ℕ → List AtomNo
atoms_numbered numbers = map (λ n. record { 0 = n }) numbers

machines_numbered : List ℕ → List MachineNo
machines_numbered numbers = map (λ n. record { 0 = n }) numbers

atoms_have : (numbers : List ℕ) → atom_numbers (atoms_numbered numbers) ≡ numbers
unfolding atoms_numbered
atoms_have [] = refl
atoms_have (n ∷ numbers) = ap (λ (ns : List ℕ). n ∷ ns) (atoms_have numbers)

machines_have : (numbers : List ℕ) → machine_numbers (machines_numbered numbers) ≡ numbers
unfolding machines_numbered
machines_have [] = refl
machines_have (n ∷ numbers) = ap (λ (ns : List ℕ). n ∷ ns) (machines_have numbers)

-- the atom of each vertex
cut_of : (g : DataGraph) (cut : Cut) → (of : List AtomNo) × IsCutBy g cut (atom_numbers of)
cut_of g (Grown atoms) =
    let grown : (of : List ℕ) × IsGrowthCut g atoms of = growth_cut g atoms in
    (atoms_numbered grown.0, subst (IsGrowthCut g atoms) (sym (atoms_have grown.0)) grown.1)
cut_of g (Told atoms told) = (told.items, refl)

module _ (g : DataGraph) (cut : Cut) (machines : ℕ) (some : 1 ≤ machines) where
  cut_and_placed : (owner : ℕ → ℕ) × IsCutAndPlaced g cut machines owner
  cut_and_placed =
      let made : (of : List AtomNo) × IsCutBy g cut (atom_numbers of) = cut_of g cut in
      let weights : List ℕ = atom_weights g (atom_numbers made.0) (atoms_of cut) in
      let placing : (owners : List ℕ) × IsPlacing weights machines owners = placing_of weights machines some in
      let on : List MachineNo = machines_numbered placing.0 in (
        placed_owner made.0 on,
        record {
          of = made.0;
          on = on;
          by = made.1;
          placing = subst (IsPlacing weights machines) (sym (machines_have placing.0)) placing.1;
          owns = λ v. refl;
        },
      )

  pub some_placement : (owner : ℕ → ℕ) × IsPlacement g cut machines owner
  some_placement = elim (cases_lt 1 machines) [
    | inl many ↦
        let placed : (owner : ℕ → ℕ) × IsCutAndPlaced g cut machines owner = cut_and_placed in
        (placed.0, record { one = λ single. absurd (omega (arith, many, single)); several = λ _. placed.1 })
    | inr few ↦ (λ v. 0, record { one = λ _ v. refl; several = λ many. absurd (omega (arith, many, few)) })
  ]
