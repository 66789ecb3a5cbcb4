use Rattle.std.proofs.Common.{Some}
use Rattle.wire_board.specs.Led.{Node}
use Rattle.wire_board.specs.Standings.{at_rest}
use Rattle.wire_board.proofs.boards.Board.rest.Given as goal

abbrev pub ghosts-settle : goal.ghosts-settle
ghosts-settle g a = record { part = Some (Node (at_rest a._from.now)) }
