use Rattle.std.proofs.Common.{◌≡◌, ◌<◌, ℕ, false, length}
use Rattle.task_sets.specs.vertex_queue.Flags.{is_flagged}
use Rattle.task_sets.proofs.vertex_queue.queues.VertexQueue.clear.Given as goal

abbrev pub invariant-loop-v : goal.invariant-loop-v
invariant-loop-v l = record { count : length l.self ≡ l.count; low : (u : ℕ) → u < l.v → is_flagged l.self u ≡ false }
