use Rattle.std.proofs.Common.{◌≡◌, ◌-◌, ◌≤◌, length}
use Rattle.graph_core.specs.Inner.RowSteps.{AreRowsAt, place_in}
use Rattle.graph_core.proofs.rows.place_items.Given as goal

abbrev pub invariant-loop-low : goal.invariant-loop-low
invariant-loop-low g l = record {
  rows : AreRowsAt (place_in l.low l.low (length (g.K.Keyed.list l.keyed)) (length (g.K.Keyed.list l.keyed))) (g.K.Keyed.list l.keyed) l.starts l.items;
  within : l.low ≤ length l.starts;
  starts : length l.starts ≡ length l.fn.starts;
  items : length l.items ≡ length l.fn.items;
}

abbrev pub decreases-loop-low : goal.decreases-loop-low
decreases-loop-low g l = length l.starts - l.low
