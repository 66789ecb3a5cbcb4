use Rattle.cluster_step.specs.drive.Pauses.{IsSameAttempt}
use Rattle.cluster_step.proofs.drive.turns.tell_all.Given as goal

abbrev pub invariant-loop-m : goal.invariant-loop-m
invariant-loop-m g l = IsSameAttempt l.fn.trace l.trace
