-- Machines of atoms that are placed by weight.
use Rattle.std.proofs.Common.{◌≡◌, ◌<◌, ℕ, ◌∙◌, List, length, All, ap, sym, subst, slice_index, zero-add}
use Rattle.std.specs.Prelude.{Contains}
use Rattle.std.proofs.lemmas.List.{get_or_default, get_or-map, length-map}
use Rattle.std.proofs.lemmas.List.FromFn.{length-range_with_len, length-map-range_with_len, get_or-range_with_len}
use Rattle.std.proofs.lemmas.List.Sorted.{Contains-permutation}
use Rattle.gl_base.specs.declared.numbers.MachineNo.{MachineNo}
use Rattle.graph_core.specs.DataGraph.{DataGraph}
use Rattle.graph_atoms.specs.atom_place.Placing.{IsPlacing, all_atoms}
use Rattle.placement.specs.graphs.Placed.{machine_numbers}
use Rattle.placement.specs.graphs.Weights.{atom_weight, atom_weights}

-- each atom is placed on one of the machines
pub owners_low : (weights : List ℕ) (machines : ℕ) (owners : List MachineNo) → IsPlacing weights machines (machine_numbers owners) → All (λ (m : MachineNo). m.0 < machines) owners
owners_low weights machines owners placing = λ a d low.
    let many : length owners ≡ length weights = sym (length-map owners (λ (m : MachineNo). m.0)) ∙ placing.each in
    let inside : a < length weights = subst (λ (n : ℕ). a < n) many low in
    let all : Contains (all_atoms weights) a = (a, subst (λ (n : ℕ). a < n) (sym (length-range_with_len 0 (length weights))) inside, get_or-range_with_len 0 (length weights) a a inside ∙ zero-add a) in
    let there = Contains-permutation (all_atoms weights) placing.order a placing.falling.all all in
    let at : slice_index placing.order there.0 ≡ a = get_or_default placing.order there.0 0 a there.1 ∙ there.2 in
    let below = (placing.turns there.0 there.1).below in
    subst (λ (n : ℕ). n < machines) (ap (slice_index (machine_numbers owners)) at ∙ get_or-map (λ (m : MachineNo). m.0) owners a d 0 low) below

-- there is a machine for each atom
pub owners_each : (g : DataGraph) (of : List ℕ) (atoms : ℕ) (weights : List ℕ) (machines : ℕ) (owners : List MachineNo) → weights ≡ atom_weights g of atoms → IsPlacing weights machines (machine_numbers owners) → length owners ≡ atoms
owners_each g of atoms weights machines owners are placing =
    sym (length-map owners (λ (m : MachineNo). m.0)) ∙ placing.each ∙ ap length are ∙ length-map-range_with_len (atom_weight g of) 0 atoms
