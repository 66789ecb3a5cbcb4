use Rattle.std.proofs.Common.{◌≡◌, length}
use Rattle.task_sets.proofs.vertex_queue.lines.VertexLine.clear.Given as goal

abbrev pub invariant-line : goal.invariant-line
invariant-line l = length l.self.among ≡ length l.initial.self.among

abbrev pub decreases-line : goal.decreases-line
decreases-line l = length l.self.line
