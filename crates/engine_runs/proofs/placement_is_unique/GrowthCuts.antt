-- Each graph can be cut by its growth.
use Rattle.std.proofs.Common.{◌≡◌, ℕ, zero, suc, ◌+◌, ◌*◌, ◌/◌, ◌<◌, ◌≤◌, List, length, slice_index, set, refl, arith, length-set}
use Rattle.std.specs.Prelude.{replicate}
use Rattle.std.proofs.lemmas.List.{length-replicate}
use Rattle.graph_atoms.specs.atom_cut.Cuts.{IsGrowthCut}
use Rattle.graph_atoms.proofs.atom_cut.AssignLemmas.{assigned-more}
use Rattle.graph_core.specs.DataGraph.{DataGraph, size}
use Rattle.graph_core.specs.Growth.{ListsEach, growth_order}
use Rattle.engine_runs.proofs.placement_is_unique.GrowthPlaces.{growth_lists_each}

module _ (g : DataGraph) (atoms : ℕ) where
  abbrev order : List ℕ
  order = growth_order g 0

  -- the atom of the vertex at a place of the order
  abbrev atom_at : ℕ → ℕ
  atom_at p = p * atoms / size g

  -- a list has the atoms of so many vertices of the order
  record HasAtoms (many : ℕ) : Type 0 where
    of : List ℕ
    each : length of ≡ size g
    place : (p : ℕ) → p < many → slice_index of (slice_index order p) ≡ atom_at p

  assigned : (many : ℕ) → many ≤ size g → HasAtoms many
  assigned zero few = record { of = replicate (size g) 0; each = length-replicate {A = ℕ} (size g) 0; place = λ p low. absurd (omega arith) }
  assigned (suc many) few =
      let before : HasAtoms many = assigned many (omega arith) in
      let lists : ListsEach (size g) order = growth_lists_each g in
      let inside : many < length order = omega (arith, lists.count) in
      let low : slice_index order many < length before.of = omega (arith, lists.below many 0 inside, before.each) in
      let next : many + 1 ≡ suc many = omega arith in
      record {
        of = set before.of (slice_index order many) (atom_at many);
        each = omega (arith, length-set before.of (slice_index order many) (atom_at many), before.each);
        place = λ p h. assigned-more (size g) order before.of atom_at many (atom_at many) lists inside low refl before.place p (omega arith);
      }

  pub growth_cut : (of : List ℕ) × IsGrowthCut g atoms of
  growth_cut =
      let made : HasAtoms (size g) = assigned (size g) (omega arith) in
      (made.of, record { each = made.each; place = made.place })
