use Rattle.std.proofs.Common.{Some}
use Rattle.wire_board.specs.Led.{Lead}
use Rattle.wire_board.proofs.boards.Board.rest_lead.Given as goal

abbrev pub ghosts-settle : goal.ghosts-settle
ghosts-settle g a = record { part = Some (Lead a._from.now) }
