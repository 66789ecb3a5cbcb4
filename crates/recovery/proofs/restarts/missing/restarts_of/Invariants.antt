use Rattle.std.proofs.Common.{◌≡◌, ◌++◌, take}
use Rattle.std.specs.List.{flat_map}
use Rattle.recovery.specs.restarts.Inner.Kept.{kept_restart}
use Rattle.recovery.proofs.restarts.missing.restarts_of.Given as goal

abbrev pub invariant-loop-entry : goal.invariant-loop-entry
invariant-loop-entry l = l.found.items ≡ l.initial.found.items ++ flat_map kept_restart (take l.entry-index l.order)
