use Rattle.std.proofs.Common.{rules}
use Rattle.std.proofs.lemmas.Result.{err_from_is_err_and}
use Rattle.gl_outside.proofs.Fronts.{Printing-moved, Printing-front, Printing-more, Rose-later}
use Rattle.graph_text.specs.generate.Making.{vertex_line}
use Rattle.graph_text.proofs.generate.MadeTexts.{Printing-made, two_pushes}
use Rattle.graph_text.proofs.generate.making.make_vertices.Goals as goal

pub returns-in_err-push_decimal-clause-written : goal.returns-in_err-push_decimal-clause-written
returns-in_err-push_decimal-clause-written g c =
    let exit = err_from_is_err_and c.from_residual-in_err-push_decimal.result c.from_residual-in_err-push_decimal.ensures.1 in
    rw (exit.1, exit.2) (Printing-front _ _ _ _ _ c.loop-vertex.invariant.printing)

pub returns-in_err-push_byte-clause-written : goal.returns-in_err-push_byte-clause-written
returns-in_err-push_byte-clause-written g c =
    let exit = err_from_is_err_and c.from_residual-in_err-push_byte.result c.from_residual-in_err-push_byte.ensures.1 in
    rw (exit.1, exit.2) (Printing-front _ _ _ _ _ c.loop-vertex.invariant.printing)

pub returns-in_err-write_when_full-clause-written : goal.returns-in_err-write_when_full-clause-written
returns-in_err-write_when_full-clause-written g c =
    let exit = err_from_is_err_and c.from_residual-in_err-write_when_full.result c.from_residual-in_err-write_when_full.ensures.1 in
    let line = two_pushes c.loop-vertex.piece.items c.push_decimal.new.text.items c.push_byte.new.piece.items c.loop-vertex.vertex c.in_ok-push_decimal.ensures.added c.in_ok-push_byte.ensures in
    rw (exit.1, exit.2) (
      Rose-later _ _ _ c.loop-vertex.invariant.later c.in_err-write_when_full.ensures.fault,
      Printing-more _ _ _ _ _ _ c.in_err-write_when_full.ensures.front
          (Printing-made _ _ _ c.push_byte.new.piece.items _ vertex_line c.loop-vertex.vertex c.args.plan.now.vertices c.loop-vertex-test.true line c.loop-vertex.invariant.printing),
    )

pub loop-vertex-preserved : goal.loop-vertex-preserved
loop-vertex-preserved g c =
    let line = two_pushes c.loop-vertex.piece.items c.push_decimal.new.text.items c.push_byte.new.piece.items c.loop-vertex.vertex c.in_ok-push_decimal.ensures.added c.in_ok-push_byte.ensures in
    let gathered = Printing-made (g.K.Sink.held c.args.sink.now) (g.K.Sink.held c.loop-vertex.sink) _ c.push_byte.new.piece.items _ vertex_line c.loop-vertex.vertex c.args.plan.now.vertices c.loop-vertex-test.true line c.loop-vertex.invariant.printing in
    let moves = c.in_ok-write_when_full.ensures.ok in
    record { printing = Printing-moved _ _ _ _ moves.0 _ _ _ moves.2 moves.1 gathered; later = search rules; same = search rules }

pub returns-in_err-write_all-clause-written : goal.returns-in_err-write_all-clause-written
returns-in_err-write_all-clause-written g c =
    let exit = err_from_is_err_and c.from_residual-in_err-write_all.result c.from_residual-in_err-write_all.ensures.1 in
    rw (exit.1, exit.2) (
      Rose-later _ _ _ c.loop-vertex.invariant.later c.in_err-write_all.ensures.fault,
      Printing-more _ _ _ _ _ _ (rw c.deref.ensures.value at c.in_err-write_all.ensures.front) c.loop-vertex.invariant.printing,
    )
