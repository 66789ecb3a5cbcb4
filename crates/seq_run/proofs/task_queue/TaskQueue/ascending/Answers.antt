use Rattle.std.proofs.Common.{◌<◌, ◌∙◌, true, length, arith}
use Rattle.std.proofs.Math.ListN.{length-set}
use Rattle.seq_run.proofs.Queueing.{added_below}
use Rattle.seq_run.proofs.task_queue.TaskQueue.ascending.Goals as goal

pub loop-v-preserved : goal.loop-v-preserved
loop-v-preserved c =
    let before = c.loop-v.invariant in
    let inside : c.loop-v.v < length c.loop-v.tasks = let count = before.0 in omega arith in
    rw c.add.ensures (length-set c.loop-v.tasks c.loop-v.v true ∙ before.0, λ u. added_below c.loop-v.tasks c.loop-v.v u inside (before.1 u))
