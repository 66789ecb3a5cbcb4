use Rattle.std.proofs.Common.{◌≡◌, ◌++◌, take}
use Rattle.std.specs.List.{flat_map}
use Rattle.call_laws.specs.lost_updates.Inner.Tickets.{kept_lacking}
use Rattle.call_laws.proofs.lost_updates.lost.lost_updates.Given as goal

abbrev pub invariant-loop-entry : goal.invariant-loop-entry
invariant-loop-entry l = l.lost.items ≡ l.initial.lost.items ++ flat_map (kept_lacking l.tickets.items) (take l.entry-index l.made)
