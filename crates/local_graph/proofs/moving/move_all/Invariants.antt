use Rattle.std.proofs.Common.{◌≡◌, length}
use Rattle.std.specs.List.Sorted.{IsPermutation}
use Rattle.local_graph.proofs.moving.move_all.Given as goal

abbrev pub invariant-loop-place : goal.invariant-loop-place
invariant-loop-place l = IsPermutation l.fn.lines l.lines × (length l.lines ≡ length l.fn.lines)
