use Rattle.wire_board.proofs.Acting.{drawn_moved}
use Rattle.wire_board.specs.Acts.{Updates, UpdatesAtOnce}
use Rattle.link_tables.proofs.Seeing.{sees_then}
use Rattle.wire_board.proofs.boards.Board.work.Goals as goal

pub returns-in-Some-clause-sees : goal.returns-in-Some-clause-sees
returns-in-Some-clause-sees g c = sees_then c.args.place.now.seat.me c.look_for_ticket.new.place.seat.me c.draw.new.place.seat.me c.look_for_ticket.ensures.sees c.draw.ensures.sees

pub returns-in-Some-next_at_once-clause-sees : goal.returns-in-Some-next_at_once-clause-sees
returns-in-Some-next_at_once-clause-sees g c =
    let look = c.look_for_ticket-in-Some-next_at_once in
    sees_then c.args.place.now.seat.me look.new.place.seat.me c.draw_at_once.new.place.seat.me look.ensures.sees c.draw_at_once.ensures.sees

pub returns-in-Some-clause-moved : goal.returns-in-Some-clause-moved
returns-in-Some-clause-moved g c =
    let member = c.args.member.now in
    drawn_moved g.M.SavingMachine.represents c.args.self.now.table.many member.peers member.number (Updates c.in-Some.scope c.in-Some-look_for_ticket.ticket) member.machine c.draw.new.member.machine c.args.place.now.seat.me c.look_for_ticket.new.place.seat.me c.draw.new.place.seat.me _ _ c.in_ok-drawn.drawn
    c.look_for_ticket.ensures.sees c.in_ok-drawn.ensures.made (λ e. (c.in_ok-drawn.ensures.late e).0) c.draw.ensures.sees c.work_of.ensures.made c.work_of.ensures.late

pub returns-in-Some-next_at_once-clause-moved : goal.returns-in-Some-next_at_once-clause-moved
returns-in-Some-next_at_once-clause-moved g c =
    let member = c.args.member.now in
    let look = c.look_for_ticket-in-Some-next_at_once in
    let work = c.work_of-in-Some-next_at_once in
    drawn_moved g.M.SavingMachine.represents c.args.self.now.table.many member.peers member.number (UpdatesAtOnce (c.in-Some-next_at_once).v.0 (c.in-Some-look_for_ticket-2).ticket) member.machine c.draw_at_once.new.member.machine c.args.place.now.seat.me look.new.place.seat.me c.draw_at_once.new.place.seat.me _ _ (c.in_ok-drawn-2).drawn
    look.ensures.sees (c.in_ok-drawn-2).ensures.made (λ e. ((c.in_ok-drawn-2).ensures.late e).0) c.draw_at_once.ensures.sees work.ensures.made work.ensures.late
