use Rattle.std.proofs.Common.{length, arith}
use Rattle.prog_match.proofs.UnmatchedLemmas.{least_after}
use Rattle.prog_match.proofs.pairs.least_unmatched_id.Goals as goal

pub loop-i-preserved : goal.loop-i-preserved
loop-i-preserved c =
    let s = c.args.scope.now in
    let step = least_after (length s.links.now) s.numbers.now s.links.now c.loop-i.least c.loop-i.i (omega arith) in
    cc (step, c.loop-i.invariant, c.lowered-least.ensures, c.near.ensures, c.near_id.ensures)
