-- By the search.
use Rattle.std.proofs.Common.{sym}
use Rattle.call_laws.proofs.lost_updates.Searching.{search_found, search_missed}
use Rattle.call_laws.proofs.lost_updates.lost.has_ticket.Goals as goal

pub returns-in-Ok : goal.returns-in-Ok
returns-in-Ok c = sym (search_found c.args.tickets.now c.args.ticket c.in-Ok.field-0 c.requires c.in-Ok.ensures.position)

pub returns-in-Err : goal.returns-in-Err
returns-in-Err c = sym (search_missed c.args.tickets.now c.args.ticket c.in-Err.field-0 c.requires c.in-Err.ensures.position)
