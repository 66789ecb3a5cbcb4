use Rattle.std.proofs.Common.{◌-◌}
use Rattle.wire_board.proofs.Acting.{called_moved}
use Rattle.wire_board.proofs.Sighting.{looked_sees}
use Rattle.wire_board.specs.Led.{link_no}
use Rattle.wire_board.proofs.boards.Board.hear_call_if.Goals as goal

pub returns-clause-sees : goal.returns-clause-sees
returns-clause-sees g c =
    let member = c.args.member.now in
    looked_sees c.args.place.now.seat.me c.hear_call.new.place.seat.me c.hear_call.new.place.seat.me (link_no member.peers (member.peers - 1) member.number) c.hear_call.ensures.looked

pub returns-clause-moved : goal.returns-clause-moved
returns-clause-moved g c =
    let member = c.args.member.now in
    let old = c.args.place.now.seat.me in
    let new = c.hear_call.new.place.seat.me in
    let sees = looked_sees old new new (link_no member.peers (member.peers - 1) member.number) c.hear_call.ensures.looked in
    called_moved g.M.SavingMachine.represents c.args.self.now.table.many member.peers member.number member.machine c.hear_call.new.member.machine old new c.has_come.result sees c.in_ok-how.how
    c.in_ok-how.ensures.applied (λ e. (c.in_ok-how.ensures.empty e).0) (λ e. (c.in_ok-how.ensures.busy e).0) c.has_come.ensures.some c.has_come.ensures.none

pub returns-in_err-how-clause-sees : goal.returns-in_err-how-clause-sees
returns-in_err-how-clause-sees g c =
    let member = c.args.member.now in
    looked_sees c.args.place.now.seat.me c.hear_call.new.place.seat.me c.hear_call.new.place.seat.me (link_no member.peers (member.peers - 1) member.number) c.hear_call.ensures.looked
