use Rattle.cluster_step.specs.drive.Pauses.{IsSameAttempt}
use Rattle.cluster_step.proofs.drive.turns.work.Given as goal

abbrev pub invariant-loop : goal.invariant-loop
invariant-loop g l = IsSameAttempt l.fn.trace l.trace
