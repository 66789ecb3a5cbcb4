use Rattle.std.proofs.Common.{◌≡◌, ◌++◌, take}
use Rattle.std.specs.List.{flat_map}
use Rattle.call_laws.specs.lost_updates.Inner.Tickets.{update_ticket}
use Rattle.call_laws.proofs.lost_updates.lost.tickets_in_turn.Given as goal

abbrev pub invariant-loop-entry : goal.invariant-loop-entry
invariant-loop-entry l = l.tickets.items ≡ l.initial.tickets.items ++ flat_map update_ticket (take l.entry-index l.order)
