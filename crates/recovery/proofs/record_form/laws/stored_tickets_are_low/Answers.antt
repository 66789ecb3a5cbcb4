-- Each snapshot has low tickets for its number.
use Rattle.recovery.proofs.record_form.Tickets.{start_low}
use Rattle.recovery.proofs.record_form.laws.stored_tickets_are_low.Goals as goal

pub returns : goal.returns
returns c = λ header bytes start added is. start_low header bytes start added is
