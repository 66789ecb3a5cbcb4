use Rattle.std.proofs.Common.{take}
use Rattle.seq_run.proofs.WokenTasks.{AreAddedBy}
use Rattle.seq_run.proofs.woken_tasks.wake.Given as goal

abbrev pub invariant-loop-link : goal.invariant-loop-link
invariant-loop-link l = AreAddedBy l.woken (take l.link-index l.links) l.initial.tasks l.tasks
