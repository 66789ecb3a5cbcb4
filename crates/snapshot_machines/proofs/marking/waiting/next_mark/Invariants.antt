use Rattle.snapshot_machines.proofs.marking.ReadyLemmas.{NoneUpTo}
use Rattle.snapshot_machines.proofs.marking.waiting.next_mark.Given as goal

abbrev pub invariant-loop-place : goal.invariant-loop-place
invariant-loop-place l = NoneUpTo l.core l.ready l.place
