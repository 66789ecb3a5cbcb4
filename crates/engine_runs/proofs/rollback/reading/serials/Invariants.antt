use Rattle.std.proofs.Common.{◌≡◌, ℕ, ◌<◌, length, vec_capacity}
use Rattle.std.specs.Prelude.{slice_index_or}
use Rattle.engine_runs.specs.rollback.Failing.{InEachTrace}
use Rattle.engine_runs.proofs.rollback.reading.serials.Given as goal

abbrev pub invariant-loop-m : goal.invariant-loop-m
invariant-loop-m g l =
    record {
      room : vec_capacity l.serials ≡ l.many;
      many : length l.serials.items ≡ l.m;
      each : (a : ℕ) → a < l.m → InEachTrace g.M.SavingMachine.represents l.trace (λ st o events c. slice_index_or l.serials.items a 0 ≡ (c.machine a).part.serial);
    }
