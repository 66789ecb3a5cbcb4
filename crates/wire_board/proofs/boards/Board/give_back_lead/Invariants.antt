use Rattle.std.proofs.Common.{Some}
use Rattle.wire_board.specs.Led.{Lead}
use Rattle.wire_board.proofs.boards.Board.give_back_lead.Given as goal

abbrev pub ghosts-give : goal.ghosts-give
ghosts-give g a = record { part = Some (Lead a._from.now) }
