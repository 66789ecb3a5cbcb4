use Rattle.std.proofs.Common.{[], refl, ◌+◌, ◌∙◌}
use Rattle.link_tables.specs.Seats.{word_at}
use Rattle.wire_board.proofs.LeadPlaces.{leads_read}
use Rattle.node_threads.proofs.leading.lead.Goals as goal

pub returns-then-is_halted-clause-first : goal.returns-then-is_halted-clause-first
returns-then-is_halted-clause-first g c =
    let i = c.loop.invariant.first in
    let found = c.is_halted.ensures.found in
    record {
      table = c.is_halted.ensures.table ∙ i.table;
      number = i.number;
      leads = leads_read c.loop.first.lead [] c.loop.first.place.seat.me c.is_halted.new.place.seat.me (word_at (c.args.board.now.table.many + 1)) found.0 i.leads found.1;
    }

pub lead_on-requires-clause-first : goal.lead_on-requires-clause-first
lead_on-requires-clause-first g c =
    let i = c.loop.invariant.first in
    let found = c.is_halted.ensures.found in
    record {
      table = c.is_halted.ensures.table ∙ i.table;
      number = refl;
      leads = leads_read c.loop.first.lead [] c.loop.first.place.seat.me c.is_halted.new.place.seat.me (word_at (c.args.board.now.table.many + 1)) found.0 i.leads found.1;
    }
