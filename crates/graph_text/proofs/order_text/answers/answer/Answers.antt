use Rattle.std.proofs.Common.{rules}
use Rattle.graph_text.proofs.order_text.Lines.{answer_text-take}
use Rattle.graph_text.proofs.order_text.answers.answer.Goals as goal

pub loop-vertex-preserved : goal.loop-vertex-preserved
loop-vertex-preserved c =
    let ids = c.args.graph.now.ids in
    let numbers = c.args.values.now in
    rw (answer_text-take c.args.kind ids numbers c.loop-vertex.vertex (search rules) c.requires)
    (rw (c.loop-vertex.invariant, c.id-id.ensures) at c.in_ok-push_line.ensures)
