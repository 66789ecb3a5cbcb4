use Rattle.std.proofs.Common.{refl, rules}
use Rattle.std.proofs.lemmas.List.Filters.{dedup_is}
use Rattle.std.proofs.lemmas.List.Sorted.{IsNonDecreasingBy-from_sort_by_key}
use Rattle.graph_core.proofs.NeighbourLemmas.{distinct_sorted, distinct_already}
use Rattle.graph_core.proofs.neighbours.make_distinct.Goals as goal

pub returns-then-not-rises : goal.returns-then-not-rises
returns-then-not-rises c =
    let up = IsNonDecreasingBy-from_sort_by_key (λ v. v.0) _ c.sort_unstable_by_key.ensures.sorted (λ a r q k. search rules) in
    distinct_sorted _ (λ v. v.0) c.args.list.now.items c.sort_unstable_by_key.new.self.items c.dedup.new.self.items (λ a b. refl) c.sort_unstable_by_key.ensures.permutation up (dedup_is _ _ _ c.dedup.ensures.filtered)

pub returns-else-not-rises : goal.returns-else-not-rises
returns-else-not-rises c = distinct_already (λ v. v.0) c.args.list.now.items (rw c.deref.ensures.value at c.if-not-rises.ensures)
