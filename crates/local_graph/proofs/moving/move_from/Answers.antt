use Rattle.std.proofs.Common.{◌∙◌}
use Rattle.std.proofs.lemmas.List.Sorted.{IsPermutation-trans}
use Rattle.local_graph.proofs.moving.move_from.Goals as goal

pub loop-preserved : goal.loop-preserved
loop-preserved c = (IsPermutation-trans _ _ _ c.loop.invariant.0 c.exchange.ensures.permutation, c.exchange.ensures.many ∙ c.loop.invariant.1)

pub returns-then-not-exchange-clause-permutation : goal.returns-then-not-exchange-clause-permutation
returns-then-not-exchange-clause-permutation c = IsPermutation-trans _ _ _ c.loop.invariant.0 c.exchange.ensures.permutation
