use Rattle.std.proofs.Common.{refl}
use Rattle.link_tables.proofs.Standing.{rests_changed}
use Rattle.wire_board.proofs.Leads.{carries_stays}
use Rattle.wire_board.specs.Led.{Lead}
use Rattle.wire_board.specs.Openings.{standing_parts}
use Rattle.wire_board.proofs.boards.Board.rest_lead.Goals as goal

pub settle-requires-clause-rests : goal.settle-requires-clause-rests
settle-requires-clause-rests g c =
    let s = c.requires.sits.1 in
    let about = c.args.self.now.table.table.shared.key.about in (
      Lead c.args.lead.now,
      Lead s.was,
      c.requires.sits.0,
      refl,
      s.rests,
      s.number,
      carries_stays g.M.SavingMachine.represents about.failures.value.items about.done.value.items (standing_parts about.machines about.opening.value) about.machines s.was c.args.lead.now s.number s.stays,
    )

pub returns-clause-rests : goal.returns-clause-rests
returns-clause-rests g c = λ others s.
    rests_changed c.args.place.now.seat.me c.settle.new.place.seat.me (Lead s.was) (Lead c.args.lead.now) others _ s.rests (c.settle.ensures.settled (Lead c.args.lead.now) refl)
