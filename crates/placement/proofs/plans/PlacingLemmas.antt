-- Where a plan places a graph.
use Rattle.std.proofs.Common.{◌≡◌, ◌<◌, ℕ, ◌∙◌, List, length, replicate, All, ap, sym, subst, refl, inl, inr, arith}
use Rattle.std.specs.Prelude.{Err, IfOk, Ok, Result, slice_index}
use Rattle.std.specs.declared.alloc.Global.{Global}
use Rattle.std.specs.declared.vec.Vec.{Vec}
use Rattle.graph_atoms.specs.atom_gather.Cuts.{IsAssignment}
use Rattle.std.proofs.lemmas.Bool.{cases_lt}
use Rattle.std.proofs.lemmas.List.{get_or-map, get_or-replicate, get_or_past, length-map, length-replicate}
use Rattle.std.proofs.lemmas.List.FromFn.{length-map-range_with_len}
use Rattle.graph_atoms.specs.declared.atom_gather.cuts.Cut.{Cut}
use Rattle.graph_atoms.specs.declared.atom_gather.cuts.Cut.TheVariants.{Told}
use Rattle.gl_base.specs.declared.memory.NoMemory.{NoMemory}
use Rattle.gl_base.specs.declared.numbers.AtomNo.{AtomNo}
use Rattle.gl_base.specs.declared.numbers.MachineNo.{MachineNo}
use Rattle.graph_core.specs.DataGraph.{DataGraph, size}
use Rattle.placement.specs.graphs.Placed.{atom_numbers, machine_numbers}
use Rattle.placement.specs.graphs.Weights.{IsPlacing, atom_weight, atom_weights}
use Rattle.placement.specs.declared.graphs.cutting.Placement.{Placement}
use Rattle.placement.specs.plans.Plans.{IsPlaced}
use Rattle.placement.specs.plans.Plays.{IsCutBy, atoms_of}
use Rattle.placement.specs.declared.plans.runs.RunPlan.{RunPlan}

-- each atom is on a machine
on_count : (g : DataGraph) (atoms machines : ℕ) (of : List AtomNo) (on : List MachineNo) → IsPlacing (atom_weights g (atom_numbers of) atoms) machines (machine_numbers on) → length on ≡ atoms
on_count g atoms machines of on placing = sym (length-map on (λ (m : MachineNo). m.0)) ∙ placing.each ∙ length-map-range_with_len (atom_weight g (atom_numbers of)) 0 atoms

-- ---- where the graph is placed

-- on several machines
pub is_cut : (g : DataGraph) (cut : Cut) (plan : RunPlan) (made : Placement) → 1 < plan.machines → length made.of.items ≡ size g → IsCutBy g cut (atom_numbers made.of.items)
    → IsPlacing (atom_weights g (atom_numbers made.of.items) (atoms_of cut)) plan.machines (machine_numbers made.owner.items) → All (λ (a : AtomNo). a.0 < atoms_of cut) made.of.items
    → All (λ (m : MachineNo). m.0 < plan.machines) made.owner.items → IsPlaced g cut plan made
is_cut g cut plan made several each by placing atoms machines =
    record {
      each = each;
      atoms = subst (λ (n : ℕ). All (λ (a : AtomNo). a.0 < n) made.of.items) (sym (on_count g (atoms_of cut) plan.machines made.of.items made.owner.items placing)) atoms;
      machines = machines;
      placement = record { one = λ one v. absurd (many one); several = λ more. record { of = made.of.items; on = made.owner.items; by = by; placing = placing; owns = λ v. refl } };
    }
  where
    many : plan.machines ≡ 1 → ⊥
    many one = omega (arith, several, one)

-- the atoms of vertices, as atoms and as their numbers
pub numbers_below : (atoms : ℕ) (of : List AtomNo) → All (λ (a : ℕ). a < atoms) (atom_numbers of) → All (λ (a : AtomNo). a.0 < atoms) of
numbers_below atoms of below = λ i d low.
    subst (λ (a : ℕ). a < atoms) (get_or-map (λ (a : AtomNo). a.0) of i d 0 low)
    (below i 0 (subst (λ (n : ℕ). i < n) (sym (length-map of (λ (a : AtomNo). a.0))) low))

-- as it was told
pub is_told : (g : DataGraph) (cut : Cut) (atoms : ℕ) (told : Vec AtomNo Global) (plan : RunPlan) (r : Result Placement NoMemory) → 1 < plan.machines → cut ≡ Told atoms told → IsAssignment g atoms (atom_numbers told.items)
    → IfOk r (λ made. made.of.items ≡ told.items) → IfOk r (λ made. IsPlacing (atom_weights g (atom_numbers told.items) atoms) plan.machines (machine_numbers made.owner.items))
    → IfOk r (λ made. All (λ (m : MachineNo). m.0 < plan.machines) made.owner.items) → IfOk r (IsPlaced g cut plan)
is_told g cut atoms told plan (Ok made) several is assigned of placing machines =
    let each : length told.items ≡ size g = sym (length-map told.items (λ (a : AtomNo). a.0)) ∙ assigned.each in
    let below : All (λ (a : AtomNo). a.0 < atoms) told.items = numbers_below atoms told.items assigned.below in
    subst (λ (c : Cut). IsPlaced g c plan made) (sym is)
    (is_cut g (Told atoms told) plan made several (ap length of ∙ each) (ap atom_numbers of)
    (subst (λ (ts : List AtomNo). IsPlacing (atom_weights g (atom_numbers ts) atoms) plan.machines (machine_numbers made.owner.items)) (sym of) placing)
    (subst (λ (ts : List AtomNo). All (λ (a : AtomNo). a.0 < atoms) ts) (sym of) below) machines)
is_told g cut atoms told plan (Err why) several is assigned of placing machines = tt

all_by_first : (on : List MachineNo) (i : ℕ) → All (λ (m : MachineNo). m.0 < 1) on → slice_index (machine_numbers on) i ≡ 0
all_by_first on i all = elim (cases_lt i (length on)) [
  | inl low ↦
      let d : MachineNo = record { 0 = 0 } in
      let first = all i d low in
      get_or-map (λ (m : MachineNo). m.0) on i d 0 low ∙ omega arith
  | inr past ↦ get_or_past (machine_numbers on) i 0 (omega (arith, length-map on (λ (m : MachineNo). m.0)))
]

-- on one machine
pub is_whole : (g : DataGraph) (cut : Cut) (plan : RunPlan) (made : Placement) → plan.machines ≡ 1 → made.of.items ≡ replicate (size g) (record { 0 = 0 }) → made.owner.items ≡ replicate 1 (record { 0 = 0 }) → IsPlaced g cut plan made
is_whole g cut plan made one all owner =
    record {
      each = ap length all ∙ length-replicate (size g) first;
      atoms = subst (λ (all : List AtomNo). All (λ (a : AtomNo). a.0 < length made.owner.items) all) (sym all) (λ i d low. subst (λ (a : AtomNo). a.0 < length made.owner.items) (sym (get_or-replicate (size g) i first d (omega (arith, length-replicate (size g) first)))) (omega (arith, ap length owner, length-replicate 1 home)));
      machines = below;
      placement =
          record {
            one = λ is v. all_by_first made.owner.items (slice_index (atom_numbers made.of.items) v) (subst (λ (n : ℕ). All (λ (m : MachineNo). m.0 < n) made.owner.items) one below);
            several = λ more. absurd (few more);
          };
    }
  where
    first : AtomNo
    first = record { 0 = 0 }

    home : MachineNo
    home = record { 0 = 0 }

    few : 1 < plan.machines → ⊥
    few more = omega (arith, more, one)

    below : All (λ (m : MachineNo). m.0 < plan.machines) made.owner.items
    below = subst (λ (ms : List MachineNo). All (λ (m : MachineNo). m.0 < plan.machines) ms) (sym owner) (λ i d low. subst (λ (m : MachineNo). m.0 < plan.machines) (sym (get_or-replicate 1 i home d (omega (arith, length-replicate 1 home)))) (omega (arith, one)))
