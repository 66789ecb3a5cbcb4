use Rattle.std.proofs.Common.{◌≡◌, ◌<◌, ℕ, false}
use Rattle.task_sets.specs.task_sched.Tasks.{is_flagged}
use Rattle.task_sets.proofs.task_sched.task_sets.first_flag.Given as goal

abbrev pub invariant-loop-v : goal.invariant-loop-v
invariant-loop-v l = (u : ℕ) → u < l.v → is_flagged l.flags u ≡ false
