use Rattle.std.proofs.Common.{◌≡◌, length}
use Rattle.task_sets.proofs.task_sched.stages.forget_all.Given as goal

abbrev pub invariant-loop-place : goal.invariant-loop-place
invariant-loop-place l = length l.keys.items ≡ length l.initial.keys.items
