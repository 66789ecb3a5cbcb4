use Rattle.std.specs.Prelude.{◌≡◌}
use Rattle.tests_parts.proofs.full.taken.Given as goal

abbrev pub invariant-loop-number : goal.invariant-loop-number
invariant-loop-number l = l.journal.header ≡ l.header
