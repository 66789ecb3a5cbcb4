use Rattle.std.proofs.Common.{◌≡◌, ◌≤◌, length, map, take, vec_capacity}
use Rattle.graph_core.proofs.neighbours.list_others.Given as goal

abbrev pub invariant-loop-half : goal.invariant-loop-half
invariant-loop-half l = (l.list.items ≡ map (λ h. h.other) (take l.half-index l.halves)) × (length l.halves ≤ vec_capacity l.list)
