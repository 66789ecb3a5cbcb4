use Rattle.std.proofs.Common.{◌≡◌, ◌++◌, take, drop, map}
use Rattle.wire.specs.outboxes.Outboxes.{emptied}
use Rattle.wire.proofs.outboxes.outboxes.Outboxes.clear.Given as goal

abbrev pub invariant-loop-one : goal.invariant-loop-one
invariant-loop-one l = l.one-items ≡ map emptied (take l.one-index l.initial.one-items) ++ drop l.one-index l.initial.one-items
