use Rattle.std.proofs.Common.{◌<◌}
use Rattle.engine_runs.specs.rollback.Failing.{HaveFailedSince, InEachTrace, IsSameAttempt}
use Rattle.engine_runs.proofs.rollback.failing.fail_reached.Given as goal

abbrev pub invariant-loop-m : goal.invariant-loop-m
invariant-loop-m g l =
    record {
      same : IsSameAttempt l.fn.trace l.trace;
      failed : InEachTrace g.M.SavingMachine.represents l.fn.trace (HaveFailedSince g.M.SavingMachine.represents l.trace (λ a. a < l.m));
    }
