use Rattle.std.proofs.Common.{arith}
use Rattle.local_graph.proofs.ListLemmas.{kept_more}
use Rattle.local_graph.specs.Played.{side_of}
use Rattle.local_graph.proofs.siding.fill_sides.Goals as goal

pub loop-half-preserved : goal.loop-half-preserved
loop-half-preserved c =
    let s = c.args.standing.now in
    record {
      items = kept_more (side_of s.me s.many s.ghosts.now s.places.now) c.args.is_own s.many c.args.halves.now c.loop-half.half-index _ _ _ _ c.loop-half-test.true c.push_side.ensures.listed c.side_at.ensures c.loop-half.invariant.items;
      few = omega arith;
      room = omega arith;
    }
