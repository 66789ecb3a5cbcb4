use Rattle.std.proofs.Common.{ℕ, ◌<◌, slice_index_or}
use Rattle.gl_base.specs.declared.numbers.Vertex.{Vertex}
use Rattle.machine_core.specs.machine_at_once.Inner.Finding.{IsFreeLock, holder_at, queue_at}
use Rattle.machine_core.proofs.machine_at_once.finding.are_free.Given as goal

abbrev pub invariant-loop-place : goal.invariant-loop-place
invariant-loop-place l = (k : ℕ) (d : Vertex) → k < l.place → IsFreeLock (holder_at l.locks (slice_index_or l.part k d).0) (queue_at l.locks (slice_index_or l.part k d).0)
