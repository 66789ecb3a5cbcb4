use Rattle.std.proofs.Common.{rules}
use Rattle.std.proofs.lemmas.Result.{err_from_is_err_and}
use Rattle.gl_outside.proofs.Fronts.{Printing-moved, Printing-front, Printing-more, Rose-later}
use Rattle.graph_text.specs.generate.Making.{edge_line}
use Rattle.graph_text.proofs.generate.MadeTexts.{Printing-made}
use Rattle.graph_text.proofs.generate.making.write_edges.Goals as goal

pub returns-in_err-push_edge-clause-written : goal.returns-in_err-push_edge-clause-written
returns-in_err-push_edge-clause-written g c =
    let exit = err_from_is_err_and c.from_residual-in_err-push_edge.result c.from_residual-in_err-push_edge.ensures.1 in
    rw (exit.1, exit.2) (Printing-front _ _ _ _ _ c.loop-edge.invariant.printing)

pub returns-in_err-write_when_full-clause-written : goal.returns-in_err-write_when_full-clause-written
returns-in_err-write_when_full-clause-written g c =
    let exit = err_from_is_err_and c.from_residual-in_err-write_when_full.result c.from_residual-in_err-write_when_full.ensures.1 in
    rw (exit.1, exit.2) (
      Rose-later _ _ _ c.loop-edge.invariant.later c.in_err-write_when_full.ensures.fault,
      Printing-more _ _ _ _ _ _ c.in_err-write_when_full.ensures.front
          (Printing-made _ _ _ c.push_edge.new.piece.items _ (edge_line c.args.plan.now c.args.stride) c.loop-edge.edge c.args.plan.now.edges c.loop-edge-test.true c.in_ok-push_edge.ensures c.loop-edge.invariant.printing),
    )

pub loop-edge-preserved : goal.loop-edge-preserved
loop-edge-preserved g c =
    let gathered = Printing-made (g.K.Sink.held c.args.sink.now) (g.K.Sink.held c.loop-edge.sink) _ c.push_edge.new.piece.items _ (edge_line c.args.plan.now c.args.stride) c.loop-edge.edge c.args.plan.now.edges c.loop-edge-test.true c.in_ok-push_edge.ensures c.loop-edge.invariant.printing in
    let moves = c.in_ok-write_when_full.ensures.ok in
    record { printing = Printing-moved _ _ _ _ moves.0 _ _ _ moves.2 moves.1 gathered; later = search rules; same = search rules }

pub returns-in_err-write_all-clause-written : goal.returns-in_err-write_all-clause-written
returns-in_err-write_all-clause-written g c =
    let exit = err_from_is_err_and c.from_residual-in_err-write_all.result c.from_residual-in_err-write_all.ensures.1 in
    rw (exit.1, exit.2) (
      Rose-later _ _ _ c.loop-edge.invariant.later c.in_err-write_all.ensures.fault,
      Printing-more _ _ _ _ _ _ (rw c.deref.ensures.value at c.in_err-write_all.ensures.front) c.loop-edge.invariant.printing,
    )
