use Rattle.link_tables.proofs.Seeing.{seen_one, seen_read, seen_sees, then_seen}
use Rattle.wire_board.proofs.Places.{sits_read}
use Rattle.wire_board.proofs.boards.Board.take_laden.Goals as goal

pub take-requires-clause-sits : goal.take-requires-clause-sits
take-requires-clause-sits g c = sits_read g.M.SavingMachine.represents c.args.member.now c.args.place.now.seat.me c.look-word.new.place.seat.me _ _ c.requires.sits c.look-word.ensures.found

pub returns-then-ne-clause-missed : goal.returns-then-ne-clause-missed
returns-then-ne-clause-missed g c = λ off. sits_read g.M.SavingMachine.represents c.args.member.now c.args.place.now.seat.me c.look-word.new.place.seat.me _ _ c.requires.sits c.look-word.ensures.found

pub returns-then-ne-clause-found : goal.returns-then-ne-clause-found
returns-then-ne-clause-found g c = seen_read c.args.place.now.seat.me c.look-word.new.place.seat.me _ _ c.look-word.ensures.found

pub returns-clause-found : goal.returns-clause-found
returns-clause-found g c =
    let looked = seen_read c.args.place.now.seat.me c.look-word.new.place.seat.me _ _ c.look-word.ensures.found in
    then_seen c.args.place.now.seat.me c.look-word.new.place.seat.me c.take.new.place.seat.me _ (seen_sees c.args.place.now.seat.me c.look-word.new.place.seat.me _ looked)
    (seen_one c.look-word.new.place.seat.me c.take.new.place.seat.me _ c.take.ensures.found)
