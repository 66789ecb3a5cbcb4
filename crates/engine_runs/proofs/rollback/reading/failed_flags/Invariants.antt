use Rattle.std.proofs.Common.{◌≡◌, ℕ, ◌<◌, false, length}
use Rattle.std.specs.Prelude.{slice_index_or}
use Rattle.engine_runs.specs.rollback.Failing.{InEachTrace}
use Rattle.engine_runs.proofs.rollback.reading.failed_flags.Given as goal

abbrev pub invariant-loop-m : goal.invariant-loop-m
invariant-loop-m g l =
    record {
      many : length l.flags.items ≡ l.m;
      each : (a : ℕ) → a < l.m → InEachTrace g.M.SavingMachine.represents l.trace (λ st o events c. slice_index_or l.flags.items a false ≡ (c.machine a).failed);
    }
