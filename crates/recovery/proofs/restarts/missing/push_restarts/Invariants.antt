use Rattle.std.proofs.Common.{◌≡◌, ◌++◌}
use Rattle.recovery.specs.restarts.Missing.{restarts}
use Rattle.recovery.proofs.restarts.missing.push_restarts.Given as goal

abbrev pub invariant-loop : goal.invariant-loop
invariant-loop l = l.missing.items ≡ l.initial.missing.items ++ restarts l.counter l.ticket
