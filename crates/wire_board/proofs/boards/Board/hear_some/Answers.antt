use Rattle.std.proofs.Common.{◌≡◌}
use Rattle.wire_board.proofs.Acting.{heard_moved}
use Rattle.wire_board.proofs.Sighting.{heard_nothing, looked_sees}
use Rattle.wire_board.specs.Led.{link_no}
use Rattle.wire_board.proofs.boards.Board.hear_some.Goals as goal

pub returns-clause-nothing : goal.returns-clause-nothing
returns-clause-nothing g c =
    λ still.
    let member = c.args.member.now in
    heard_nothing c.args.place.now.seat.me c.hear.new.place.seat.me c.hear.new.place.seat.me (link_no member.peers c.args.from.0 member.number) (c.hear.new.member.machine ≡ member.machine) c.hear.result c.in_ok-how.how c.hear.ensures.empty c.hear.ensures.busy c.in_ok-how.was (c.has_come.ensures.none still)

pub returns-clause-moved : goal.returns-clause-moved
returns-clause-moved g c =
    let member = c.args.member.now in
    let old = c.args.place.now.seat.me in
    let new = c.hear.new.place.seat.me in
    let sees = looked_sees old new new (link_no member.peers c.args.from.0 member.number) c.hear.ensures.looked in
    heard_moved g.M.SavingMachine.represents c.args.self.now.table.many member.peers member.number member.machine c.hear.new.member.machine old new c.has_come.result sees c.args.from.0 c.in_ok-how.how
    c.in_ok-how.ensures.applied (λ e. (c.in_ok-how.ensures.empty e).0) (λ e. (c.in_ok-how.ensures.busy e).0) c.has_come.ensures.some c.has_come.ensures.none
