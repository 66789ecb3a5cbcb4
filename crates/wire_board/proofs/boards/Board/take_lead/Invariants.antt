use Rattle.std.proofs.Common.{Some}
use Rattle.wire_board.specs.Led.{Lead}
use Rattle.wire_board.proofs.boards.Board.take_lead.Given as goal

abbrev pub ghosts-take : goal.ghosts-take
ghosts-take g a = record { part = Some (Lead a._from.now) }
