use Rattle.wire_board.proofs.Sighting.{if_ok_to}
use Rattle.std.proofs.Common.{refl}
use Rattle.wire_board.proofs.Turning.{sits_on}
use Rattle.wire_board.proofs.boards.Board.settle.Goals as goal

pub returns-clause-sits : goal.returns-clause-sits
returns-clause-sits g c =
    let member = c.args.member.now in
    sits_on g.M.SavingMachine.represents c.args.place.now.seat.me member (record { number = member.number; peers = member.peers; machine = c.settle_all.new.machine }) refl refl c.settle_all.ensures.comes c.requires.sits

pub returns-clause-moved : goal.returns-clause-moved
returns-clause-moved g c =
    let member = c.args.member.now in
    if_ok_to c.settle_all.result _ _ (λ some all. all c.args.self.now.table.many member.peers member.number c.args.place.now.seat.me) c.settle_all.ensures.moved
