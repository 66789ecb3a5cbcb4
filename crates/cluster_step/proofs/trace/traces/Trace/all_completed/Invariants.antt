use Rattle.std.proofs.Common.{◌≡◌, ℕ, ◌<◌, length}
use Rattle.std.specs.Prelude.{slice_index_or}
use Rattle.cluster_laws.specs.cluster_model.Machines.{completed}
use Rattle.cluster_step.specs.trace.Traces.{InEachTrace}
use Rattle.cluster_step.proofs.trace.traces.Trace.all_completed.Given as goal

abbrev pub invariant-loop-m : goal.invariant-loop-m
invariant-loop-m g l =
    record {
      many : length l.counts.items ≡ l.m;
      each : (a : ℕ) → a < l.m → InEachTrace g.M.SavingMachine.represents l.self (λ st o events c. slice_index_or l.counts.items a 0 ≡ completed (c.machine a));
    }
