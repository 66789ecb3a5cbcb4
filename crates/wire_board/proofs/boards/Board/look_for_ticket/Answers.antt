use Rattle.link_tables.specs.Seats.{word_at}
use Rattle.wire_board.proofs.Turning.{sits_looked}
use Rattle.wire_board.proofs.Sighting.{none_seen, ticket_seen}
use Rattle.wire_board.proofs.boards.Board.look_for_ticket.Goals as goal

pub returns-clause-sits : goal.returns-clause-sits
returns-clause-sits g c =
    sits_looked g.M.SavingMachine.represents c.args.member.now c.args.place.now.seat.me c.next_ticket.new.place.seat.me (word_at c.args.self.now.table.many) c.args.self.now.table.top c.next_ticket.result c.next_ticket.ensures.next c.next_ticket.ensures.spent c.requires.sits

pub returns-clause-sees : goal.returns-clause-sees
returns-clause-sees g c =
    ticket_seen c.args.place.now.seat.me c.next_ticket.new.place.seat.me (word_at c.args.self.now.table.many) c.args.self.now.table.top c.next_ticket.result c.next_ticket.ensures.next c.next_ticket.ensures.spent

pub returns-clause-spent : goal.returns-clause-spent
returns-clause-spent g c = none_seen c.args.place.now.seat.me c.next_ticket.new.place.seat.me (word_at c.args.self.now.table.many) c.args.self.now.table.top c.next_ticket.result c.next_ticket.ensures.spent
