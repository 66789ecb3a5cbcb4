use Rattle.std.proofs.Common.{Some}
use Rattle.wire_board.specs.Standings.{owing}
use Rattle.wire_board.specs.Led.{Node}
use Rattle.wire_board.proofs.boards.Board.draw.Given as goal

abbrev pub ghosts-draw : goal.ghosts-draw
ghosts-draw g a = record { part = Some (Node (owing a._from.now a._owed.now a.ticket)) }
