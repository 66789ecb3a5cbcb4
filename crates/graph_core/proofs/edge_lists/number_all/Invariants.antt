use Rattle.std.proofs.Common.{◌≡◌, length}
use Rattle.graph_core.specs.Inner.NumberedEdges.{AreNumbered}
use Rattle.graph_core.proofs.edge_lists.number_all.Given as goal

abbrev pub invariant-loop-place : goal.invariant-loop-place
invariant-loop-place l = (length l.edges.items ≡ l.place) × AreNumbered l.ids l.directed l.listed l.edges.items
