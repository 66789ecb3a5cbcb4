use Rattle.std.proofs.Common.{◌∙◌}
use Rattle.std.proofs.lemmas.List.Sorted.{IsPermutation-trans}
use Rattle.local_graph.proofs.moving.move_all.Goals as goal

pub loop-place-preserved : goal.loop-place-preserved
loop-place-preserved c = (IsPermutation-trans _ _ _ c.loop-place.invariant.0 c.move_from.ensures.permutation, c.move_from.ensures.many ∙ c.loop-place.invariant.1)
