use Rattle.std.proofs.Common.{refl, ◌∙◌}
use Rattle.wire_board.proofs.Turning.{sits_raised}
use Rattle.node_threads.proofs.serving.play_turn.Goals as goal

pub returns-in-Reached : goal.returns-in-Reached
returns-in-Reached g c = record {
  table = c.raise-in-Reached.ensures.table ∙ c.turn.ensures.table;
  number = c.turn.ensures.same.0;
  peers = c.turn.ensures.same.1;
  before = refl;
  sits = sits_raised g.M.SavingMachine.represents c.turn.new.member c.turn.new.place.seat.me c.raise-in-Reached.new.place.seat.me c.raise-in-Reached.ensures.raised c.in-Ok.ensures.sits;
}
