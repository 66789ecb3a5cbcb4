use Rattle.std.proofs.lemmas.Result.{err_from_is_err_and}
use Rattle.graph_text.proofs.lines.CutPieces.{piece_ends, piece_passes}
use Rattle.graph_text.proofs.lines.lines.Lines.take_piece.Goals as goal

pub returns-in_err-number-clause-takes : goal.returns-in_err-number-clause-takes
returns-in_err-number-clause-takes g c =
    let error = err_from_is_err_and c.from_residual.result c.from_residual.ensures.1 in
    rw (error.1, error.2) (piece_ends g.X.LineItem.MOST (g.X.LineItem.says c.args.weighted) _ c.args.piece.now c.args.room c.min-within.result c.take_bytes.new.self _
    c.min-within.ensures c.in_err-number.ensures.takes)

pub returns-then-within-piece-clause-takes : goal.returns-then-within-piece-clause-takes
returns-then-within-piece-clause-takes g c =
    piece_passes g.X.LineItem.MOST (g.X.LineItem.says c.args.weighted) _ c.args.piece.now c.args.room c.min-within.result c.take_bytes.new.self c.in_ok-number.number
    c.min-within.ensures c.if-within-piece.true c.in_ok-number.ensures.takes
