use Rattle.cluster_step.specs.drive.Pauses.{IsSameAttempt}
use Rattle.cluster_step.proofs.drive.happenings.exhaust.Given as goal

abbrev pub invariant-loop-times : goal.invariant-loop-times
invariant-loop-times g l = IsSameAttempt l.fn.trace l.trace
