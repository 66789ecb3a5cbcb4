use Rattle.std.proofs.Common.{refl}
use Rattle.local_graph.proofs.ListLemmas.{mapped_more, mapped_more_behind}
use Rattle.local_graph.proofs.order.list_known.Goals as goal

pub loop-line-preserved : goal.loop-line-preserved
loop-line-preserved c =
    mapped_more _ c.args.own.now c.loop-line.line-index _ _ _ _ c.loop-line-test.true c.in_ok-push.ensures.items refl c.loop-line.invariant

pub loop-line-2-preserved : goal.loop-line-2-preserved
loop-line-2-preserved c =
    mapped_more_behind _ _ c.args.ghosts.now c.loop-line-2.line-index _ _ _ _ c.loop-line-2-test.true c.in_ok-push-2.ensures.items refl c.loop-line-2.invariant
