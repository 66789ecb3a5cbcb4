use Rattle.std.proofs.Common.{subst, List}
use Rattle.link_tables.proofs.Standing.{rests_joined}
use Rattle.link_tables.specs.Seats.{Rests}
use Rattle.wire_board.proofs.Attempting.{resting_snoc}
use Rattle.wire_board.specs.Attempts.{Lead, Node, Seated, at_rest, resting}
use Rattle.wire_board.proofs.boards.Board.gather_one.Goals as goal

pub gather-requires-clause-rests : goal.gather-requires-clause-rests
gather-requires-clause-rests g c = let r = c.rest.ensures.rests in (r.link, r.slots)

pub returns-clause-behind : goal.returns-clause-behind
returns-clause-behind g c = λ lead members r.
    let member = c.args.seat.member in
    subst (λ (parts : List (Seated g.row.M.Denot)). Rests c.gather.new.place.seat.me (Lead lead) parts) (resting_snoc members member)
    (rests_joined c.args.place.now.seat.me c.rest.new.place.seat.me c.gather.new.place.seat.me (Lead lead) (Node (at_rest member)) (resting members) r c.rest.ensures.rests c.gather.ensures.parts)
