-- Each vertex of a graph that is placed has an owner.
use Rattle.std.proofs.Common.{◌≡◌, ◌<◌, ℕ, List, length, All, sym, subst, slice_index}
use Rattle.std.proofs.lemmas.List.{get_or-map}
use Rattle.gl_base.specs.declared.numbers.AtomNo.{AtomNo}
use Rattle.gl_base.specs.declared.numbers.MachineNo.{MachineNo}
use Rattle.graph_core.specs.DataGraph.{DataGraph, size}
use Rattle.placement.specs.graphs.Placed.{atom_numbers, placed_owner}

-- the owner of each vertex is one of the machines
pub owner_low : (g : DataGraph) (machines : ℕ) (of : List AtomNo) (owner : List MachineNo) → length of ≡ size g → All (λ (a : AtomNo). a.0 < length owner) of → All (λ (m : MachineNo). m.0 < machines) owner →
    (v : ℕ) → v < size g → placed_owner of owner v < machines
owner_low g machines of owner each atoms below v low =
    let inside : v < length of = subst (λ (n : ℕ). v < n) (sym each) low in
    let no_atom : AtomNo = record { 0 = 0 } in
    let no_machine : MachineNo = record { 0 = 0 } in
    let atom = slice_index (atom_numbers of) v in
    let atom_low : atom < length owner = subst (λ (n : ℕ). n < length owner) (sym (get_or-map (λ (a : AtomNo). a.0) of v no_atom 0 inside)) (atoms v no_atom inside) in
    subst (λ (n : ℕ). n < machines) (sym (get_or-map (λ (m : MachineNo). m.0) owner atom no_machine 0 atom_low)) (below atom no_machine atom_low)
