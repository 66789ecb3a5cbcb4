use Rattle.std.proofs.Common.{[], refl}
use Rattle.link_tables.proofs.Standing.{rests_on, rests_changed}
use Rattle.link_tables.proofs.tests.draw.Goals as goal

pub returns-then-draw-clause-rests : goal.returns-then-draw-clause-rests
returns-then-draw-clause-rests g c =
    let rest = rests_on _ _ c.args.node [] _ _ c.loop.invariant.rests c.next_ticket-ticket.ensures.found in
    rests_changed _ _ c.args.node _ [] _ rest (c.draw.ensures.drawn c.if-draw.true _ refl)
