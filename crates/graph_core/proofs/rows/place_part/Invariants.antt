use Rattle.std.proofs.Common.{◌≤◌, length}
use Rattle.graph_core.specs.Inner.RowSteps.{AreRowsAt, place_in}
use Rattle.graph_core.proofs.rows.place_part.Given as goal

abbrev pub invariant-loop-place : goal.invariant-loop-place
invariant-loop-place g l =
    (l.place ≤ length (g.K.Keyed.list l.keyed)) × AreRowsAt (place_in l.low l.high l.place (length (g.K.Keyed.list l.keyed))) (g.K.Keyed.list l.keyed) l.starts l.items

abbrev pub decreases-loop-place : goal.decreases-loop-place
decreases-loop-place g l = l.place
