use Rattle.std.proofs.Common.{rules}
use Rattle.std.proofs.lemmas.List.Sorted.{IsNonDecreasingBy-from_sort_by_key}
use Rattle.graph_core.proofs.sorting.sort.Goals as goal

pub returns-in_ok-sort_by_key-clause-up : goal.returns-in_ok-sort_by_key-clause-up
returns-in_ok-sort_by_key-clause-up g c = IsNonDecreasingBy-from_sort_by_key g.T.HasKey.key _ c.in_ok-sort_by_key.ensures.sorted (λ a r q k. search rules)

pub returns-else-fall_seldom-clause-up : goal.returns-else-fall_seldom-clause-up
returns-else-fall_seldom-clause-up g c = IsNonDecreasingBy-from_sort_by_key g.T.HasKey.key _ c.sort_unstable_by_key.ensures.sorted (λ a r q k. search rules)
