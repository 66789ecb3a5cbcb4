use Rattle.wire_board.proofs.Acting.{told_moved}
use Rattle.wire_board.proofs.boards.Board.tell_some.Goals as goal

pub returns-clause-moved : goal.returns-clause-moved
returns-clause-moved g c =
    let member = c.args.member.now in
    told_moved g.M.SavingMachine.represents c.args.self.now.table.many member.peers member.number member.machine c.tell.new.member.machine c.args.place.now.seat.me c.tell.new.place.seat.me c.has_gone.result c.tell.ensures.sees c.args.to.0 c.in_ok-how.how
    c.in_ok-how.ensures.moved (λ e. (c.in_ok-how.ensures.nothing e).0) (λ e. (c.in_ok-how.ensures.busy e).0) c.has_gone.ensures.some c.has_gone.ensures.none
