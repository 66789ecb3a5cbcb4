-- The lines of the entries so far.
use Rattle.std.proofs.Common.{◌≡◌, take}
use Rattle.graph_text.specs.order_text.Orders.{order_text}
use Rattle.graph_text.proofs.order_text.orders.order_bytes.Given as goal

abbrev pub invariant-loop-entry : goal.invariant-loop-entry
invariant-loop-entry l = l.text.items ≡ order_text l.graph.ids (take l.entry-index l.order)
