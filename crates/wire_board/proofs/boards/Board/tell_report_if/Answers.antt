use Rattle.wire_board.proofs.Acting.{reported_moved}
use Rattle.wire_board.proofs.boards.Board.tell_report_if.Goals as goal

pub returns-clause-moved : goal.returns-clause-moved
returns-clause-moved g c =
    let member = c.args.member.now in
    reported_moved g.M.SavingMachine.represents c.args.self.now.table.many member.peers member.number member.machine c.tell_report.new.member.machine c.args.place.now.seat.me c.tell_report.new.place.seat.me c.has_gone.result c.tell_report.ensures.sees c.in_ok-how.how
    c.in_ok-how.ensures.moved c.in_ok-how.ensures.still (λ e. (c.in_ok-how.ensures.busy e).0) c.has_gone.ensures.some c.has_gone.ensures.none
