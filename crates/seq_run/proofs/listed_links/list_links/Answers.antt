use Rattle.seq_run.proofs.LinkLemmas.{links_more}
use Rattle.seq_run.proofs.listed_links.list_links.Goals as goal

pub loop-half-preserved : goal.loop-half-preserved
loop-half-preserved c =
    rw c.in_ok-push.ensures.items (links_more c.loop-half.row.items c.link_of.result c.args.halves.now c.loop-half.half-index _ c.loop-half-test.true c.link_of.ensures c.loop-half.invariant)
