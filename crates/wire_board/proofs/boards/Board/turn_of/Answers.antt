use Rattle.wire_board.proofs.Turning.{sits_raised}
use Rattle.wire_board.proofs.boards.Board.turn_of.Goals as goal

pub returns-in-Reached-clause-seat : goal.returns-in-Reached-clause-seat
returns-in-Reached-clause-seat g c =
    let seat = c.requires.seat in
    record {
      number = c.turn.ensures.same.0;
      peers_are = c.turn.ensures.same.1;
      inside = seat.inside;
      before_is = seat.before_is;
      sits = sits_raised g.M.SavingMachine.represents c.turn.new.member c.turn.new.place.seat.me c.raise.new.place.seat.me c.raise.ensures.raised c.in_ok-turn.ensures.sits;
    }
