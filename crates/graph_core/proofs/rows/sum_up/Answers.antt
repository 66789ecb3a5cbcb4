use Rattle.std.proofs.Common.{arith}
use Rattle.graph_core.proofs.RowLemmas.{sums_more, sums_fit}
use Rattle.graph_core.proofs.rows.sum_up.Goals as goal

pub overflow_add-starts : goal.overflow_add-starts
overflow_add-starts c =
    omega (arith, sums_fit c.loop-k.k c.args.starts.now c.loop-k.starts (omega arith) (omega arith) c.loop-k.invariant)

pub loop-k-preserved : goal.loop-k-preserved
loop-k-preserved c =
    sums_more c.loop-k.k c.args.starts.now c.loop-k.starts (omega arith) (omega arith) c.loop-k.invariant (omega arith)
