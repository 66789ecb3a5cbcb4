use Rattle.std.proofs.Common.{rules}
use Rattle.std.proofs.lemmas.List.Sorted.{IsNonDecreasingBy-from_sort_by_key, answers_always}
use Rattle.store.specs.store_format.StoredOrders.{entry_rank}
use Rattle.store.proofs.store_format.OrderLemmas.{sorted_is}
use Rattle.store.proofs.store_format.entries_read.in_order.Goals as goal

pub returns : goal.returns
returns c = λ bodies all.
    sorted_is bodies _ _ (IsNonDecreasingBy-from_sort_by_key entry_rank _ c.in_ok-sort_by_key.ensures.sorted (λ a r q k. search rules))
    (c.in_ok-sort_by_key.ensures.stable entry_rank (answers_always _ _ _ (λ f a r q k. search rules))) all
