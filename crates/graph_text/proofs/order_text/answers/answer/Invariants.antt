-- The lines of the vertices so far.
use Rattle.std.proofs.Common.{◌≡◌, take}
use Rattle.graph_text.specs.order_text.Answers.{answer_text}
use Rattle.graph_text.proofs.order_text.answers.answer.Given as goal

abbrev pub invariant-loop-vertex : goal.invariant-loop-vertex
invariant-loop-vertex l = l.text.items ≡ answer_text l.kind (take l.vertex l.graph.ids) (take l.vertex l.values)
