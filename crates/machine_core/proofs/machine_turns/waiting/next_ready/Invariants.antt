use Rattle.machine_core.proofs.machine_turns.NextLemmas.{NoneUpTo}
use Rattle.machine_core.proofs.machine_turns.waiting.next_ready.Given as goal

abbrev pub invariant-loop-place : goal.invariant-loop-place
invariant-loop-place l = NoneUpTo l.core l.ready l.place
