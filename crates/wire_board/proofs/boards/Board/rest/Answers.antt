use Rattle.std.proofs.Common.{[], refl}
use Rattle.link_tables.proofs.Standing.{rests_changed}
use Rattle.wire_board.proofs.Ruling.{carries}
use Rattle.wire_board.specs.Openings.{standing_parts}
use Rattle.wire_board.specs.Seats.{Node, at_rest}
use Rattle.wire_board.proofs.boards.Board.rest.Goals as goal

pub settle-requires-clause-rests : goal.settle-requires-clause-rests
settle-requires-clause-rests g c =
    let s = c.requires.sits in
    let about = c.args.self.now.table.table.shared.key.about in (
      Node (at_rest c.args.member.now),
      Node s.was,
      [],
      refl,
      s.rests,
      s.number,
      carries g.M.SavingMachine.represents about.failures.value.items about.done.value.items (standing_parts about.machines about.opening.value) about.machines s.was c.args.member.now s.number s.peers s.come,
    )

pub returns-clause-rests : goal.returns-clause-rests
returns-clause-rests g c =
    let s = c.requires.sits in
    rests_changed c.args.place.now.seat.me c.settle.new.place.seat.me (Node s.was) (Node (at_rest c.args.member.now)) [] _ s.rests (c.settle.ensures.settled (Node (at_rest c.args.member.now)) refl)
