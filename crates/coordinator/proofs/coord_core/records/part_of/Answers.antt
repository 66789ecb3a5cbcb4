-- The numbers of the section, as they are sorted.
use Rattle.std.proofs.Common.{◌≡◌, rules, subst}
use Rattle.std.specs.List.Sorted.{IsPermutation}
use Rattle.std.proofs.lemmas.List.Sorted.{IsNonDecreasingBy-from_sort_by_key}
use Rattle.coordinator.proofs.coord_core.StoreLemmas.{sorted_part}
use Rattle.coordinator.proofs.coord_core.records.part_of.Goals as goal

pub returns : goal.returns
returns c =
    let vertices : c.in_ok-vertices.vertices.items ≡ c.in-Some.section.vertices.items = cc (c.in_ok-vertices.ensures.items, c.deref.ensures.value) in
    let edges : c.in_ok-edges.edges.items ≡ c.in-Some.section.edges.items = cc (c.in_ok-edges.ensures.items, c.deref-2.ensures.value) in
    sorted_part c.args.section.now c.in-Some.section _ c.in-Some.is
    (subst (λ xs. IsPermutation xs c.sort_unstable_by_key.new.self.items) vertices c.sort_unstable_by_key.ensures.permutation)
    (subst (λ xs. IsPermutation xs c.sort_unstable_by_key-2.new.self.items) edges c.sort_unstable_by_key-2.ensures.permutation)
    (IsNonDecreasingBy-from_sort_by_key (λ pair. pair.0.0) _ c.sort_unstable_by_key.ensures.sorted (λ a r q k. search rules))
    (IsNonDecreasingBy-from_sort_by_key (λ pair. pair.0.0) _ c.sort_unstable_by_key-2.ensures.sorted (λ a r q k. search rules))
