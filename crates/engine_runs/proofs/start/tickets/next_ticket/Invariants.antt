use Rattle.std.proofs.Common.{◌≡◌, ◌-◌, ◌^◌, drop, max, min}
use Rattle.call_laws.specs.attempts.EngineCalls.{ticket_above}
use Rattle.engine_runs.proofs.start.tickets.next_ticket.Given as goal

abbrev pub invariant-loop-entry : goal.invariant-loop-entry
invariant-loop-entry l = max l.next (min (ticket_above (drop l.entry-index l.order)) (2 ^ 64 - 1)) ≡ min (ticket_above l.order) (2 ^ 64 - 1)
