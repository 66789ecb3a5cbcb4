use Rattle.std.proofs.Common.{◌≡◌, ℕ, length, nat_lt}
use Rattle.seq_run.specs.Inner.TaskQueues.{flag}
use Rattle.seq_run.proofs.task_queue.TaskQueue.ascending.Given as goal

abbrev pub invariant-loop-v : goal.invariant-loop-v
invariant-loop-v l = (length l.tasks ≡ l.count) × ((u : ℕ) → flag l.tasks u ≡ nat_lt u l.v)
