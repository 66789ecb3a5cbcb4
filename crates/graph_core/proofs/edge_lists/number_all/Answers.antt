use Rattle.std.proofs.Common.{arith}
use Rattle.std.proofs.lemmas.Option.{slice_get-get_or}
use Rattle.graph_core.proofs.EdgeLemmas.{numbered_more}
use Rattle.graph_core.proofs.edge_lists.number_all.Goals as goal

pub loop-place-preserved : goal.loop-place-preserved
loop-place-preserved c =
    let at = c.loop-place.place in (
      omega (arith, c.in_ok-push-in-Ok.ensures.len),
      rw c.in_ok-push-in-Ok.ensures.items (numbered_more c.args.ids.now c.args.directed c.args.listed.now c.loop-place.edges.items at _ c.in-Ok.edge c.loop-place.invariant.1 c.loop-place.invariant.0 (slice_get-get_or c.args.listed.now at _ (omega arith)) c.in-Ok.ensures.0 c.in-Ok.ensures.1),
    )
