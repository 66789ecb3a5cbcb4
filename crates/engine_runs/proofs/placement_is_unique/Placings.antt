-- Atoms of given weights are placed in one way.
use Rattle.std.proofs.Common.{◌≡◌, ℕ, zero, suc, ◌+◌, ◌<◌, ◌≤◌, inl, inr, List, length, slice_index, take, cond, eqb, Contains, refl, sym, ap, ap₂, ◌∙◌, subst, arith, zero-add}
use Rattle.std.proofs.lemmas.Bool.{cases_order}
use Rattle.std.proofs.lemmas.Grind.{same_number_lists}
use Rattle.std.proofs.lemmas.List.{get_or_default}
use Rattle.std.proofs.lemmas.List.FromFn.{get_or-range_with_len, length-range_with_len}
use Rattle.std.proofs.lemmas.List.Sorted.{Contains-permutation}
use Rattle.std.proofs.lemmas.List.Sums.{sum_by_more}
use Rattle.graph_atoms.specs.atom_place.Placing.{IsLeastLoaded, IsPlacing, all_atoms, load_of}
use Rattle.engine_runs.proofs.placement_is_unique.FallingOrders.{falling_orders_are_one}

-- one machine is the least loaded
least_is_one : (load other : ℕ → ℕ) (machines a b : ℕ) → ((m : ℕ) → load m ≡ other m) → IsLeastLoaded load machines a → IsLeastLoaded other machines b → a ≡ b
least_is_one load other machines a b same least too =
    let at_a = same a in
    let at_b = same b in
    elim (cases_order a b) [
      | inl one ↦ one
      | inr (inl lower) ↦ absurd (omega (arith, at_a, at_b, least.least b too.below, too.lower a lower))
      | inr (inr higher) ↦ absurd (omega (arith, at_a, at_b, too.least a least.below, least.lower b higher))
    ]

module _ (weights owners others order : List ℕ) (machines : ℕ)
    (turns : (i : ℕ) → i < length order → IsLeastLoaded (load_of weights owners (take i order)) machines (slice_index owners (slice_index order i)))
    (turns_too : (i : ℕ) → i < length order → IsLeastLoaded (load_of weights others (take i order)) machines (slice_index others (slice_index order i))) where
  -- what an atom adds to the load of a machine
  abbrev part_of : List ℕ → ℕ → ℕ → ℕ
  part_of placed m a = cond (eqb (slice_index placed a) m) (slice_index weights a) 0

  -- where loads are the same, the next atom goes to the same machine
  same_turn : (i : ℕ) → i < length order → ((m : ℕ) → load_of weights owners (take i order) m ≡ load_of weights others (take i order) m) → slice_index owners (slice_index order i) ≡ slice_index others (slice_index order i)
  same_turn i inside same =
      least_is_one (load_of weights owners (take i order)) (load_of weights others (take i order)) machines (slice_index owners (slice_index order i)) (slice_index others (slice_index order i)) same
      (turns i inside) (turns_too i inside)

  same_loads : (i : ℕ) → i ≤ length order → (m : ℕ) → load_of weights owners (take i order) m ≡ load_of weights others (take i order) m
  same_loads zero few m = refl
  same_loads (suc i) few m =
      let inside : i < length order = omega arith in
      let next : suc i ≡ i + 1 = omega arith in
      let before = same_loads i (omega arith) in
      let owner = same_turn i inside before in
      ap (λ (n : ℕ). load_of weights owners (take n order) m) next
      ∙ sum_by_more (part_of owners m) order i 0 inside
      ∙ ap₂ (λ (load o : ℕ). load + cond (eqb o m) (slice_index weights (slice_index order i)) 0) (before m) owner
      ∙ sym (sum_by_more (part_of others m) order i 0 inside)
      ∙ ap (λ (n : ℕ). load_of weights others (take n order) m) (sym next)

  pub same_owner : (i : ℕ) → i < length order → slice_index owners (slice_index order i) ≡ slice_index others (slice_index order i)
  same_owner i inside = same_turn i inside (same_loads i (omega arith))

-- two placings of the same weights are one
pub placings_are_one : (weights : List ℕ) (machines : ℕ) (owners others : List ℕ) → IsPlacing weights machines owners → IsPlacing weights machines others → owners ≡ others
placings_are_one weights machines owners others placing too =
    let order : List ℕ = placing.order in
    let one : too.order ≡ order = falling_orders_are_one weights too.order order too.falling placing.falling in
    let turns_too = subst (λ (o : List ℕ). (i : ℕ) → i < length o → IsLeastLoaded (load_of weights others (take i o)) machines (slice_index others (slice_index o i))) one too.turns in
    same_number_lists owners others (placing.each ∙ sym too.each) (λ a low.
    let inside : a < length weights = subst (λ (n : ℕ). a < n) placing.each low in
    let all : Contains (all_atoms weights) a = (a, subst (λ (n : ℕ). a < n) (sym (length-range_with_len 0 (length weights))) inside, get_or-range_with_len 0 (length weights) a a inside ∙ zero-add a) in
    let there = Contains-permutation (all_atoms weights) order a placing.falling.all all in
    let at : slice_index order there.0 ≡ a = get_or_default order there.0 0 a there.1 ∙ there.2 in
    subst (λ (b : ℕ). slice_index owners b ≡ slice_index others b) at (same_owner weights owners others order machines placing.turns turns_too there.0 there.1))
