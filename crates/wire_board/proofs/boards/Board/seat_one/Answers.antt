use Rattle.std.proofs.Common.{refl}
use Rattle.link_tables.proofs.Standing.{rests_only, rests_without}
use Rattle.wire_board.proofs.Seating.{come_nowhere}
use Rattle.wire_board.specs.Attempts.{Lead, Node, at_rest, resting}
use Rattle.wire_board.proofs.boards.Board.seat_one.Goals as goal

pub split-own-requires-clause-rests : goal.split-own-requires-clause-rests
split-own-requires-clause-rests g c = let f = c.requires.first in (Lead f.0, Node (at_rest c.args.member), resting f.1, f.2)

pub returns-clause-behind : goal.returns-clause-behind
returns-clause-behind g c = λ lead behind r. rests_without c.args.place.now.seat.me c.split-own.new.place.seat.me (Lead lead) (Node (at_rest c.args.member)) (resting behind) r c.split-own.ensures.parts.0

pub returns-clause-seat : goal.returns-clause-seat
returns-clause-seat g c =
    let f = c.requires.first in
    record {
      number = refl;
      peers_are = refl;
      inside = c.requires.inside;
      before_is = c.before_of-before.ensures;
      sits = record {
        was = at_rest c.args.member;
        rests = rests_only c.args.place.now.seat.me c.split-own.result.seat.me (Lead f.0) (Node (at_rest c.args.member)) (resting f.1) f.2 c.split-own.ensures.parts.1;
        number = refl;
        peers = refl;
        come = come_nowhere g.M.SavingMachine.represents c.args.member;
      };
    }
