use Rattle.full_cluster.specs.Inner.Rows.{AreEdgesSoFar, AreEndsSoFar}
use Rattle.full_cluster.proofs.rows.row_along.Given as goal

abbrev pub invariant-loop-half : goal.invariant-loop-half
invariant-loop-half l = AreEndsSoFar l.halves l.numbers l.half-index l.row.items

abbrev pub invariant-loop-half-2 : goal.invariant-loop-half-2
invariant-loop-half-2 l = AreEdgesSoFar l.halves l.numbers l.edges l.half-index l.row.items
