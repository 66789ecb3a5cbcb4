use Rattle.std.proofs.Common.{◌≡◌, ℕ, length, take}
use Rattle.graph_core.specs.Growth.{is_listed, numbers_of}
use Rattle.seq_run.specs.Inner.TaskQueues.{flag}
use Rattle.seq_run.proofs.task_queue.TaskQueue.listed.Given as goal

abbrev pub invariant-loop-vertex : goal.invariant-loop-vertex
invariant-loop-vertex l =
    (length l.tasks ≡ length l.vertices) × ((u : ℕ) → flag l.tasks u ≡ is_listed (numbers_of (take l.vertex-index l.vertices)) u)
