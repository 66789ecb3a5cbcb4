use Rattle.std.proofs.Common.{◌≡◌, ℕ, ◌<◌, length}
use Rattle.std.specs.Prelude.{slice_index_or}
use Rattle.cluster_step.specs.trace.Traces.{InEachTrace}
use Rattle.wire_board.proofs.receipts.log_lengths.Given as goal

abbrev pub invariant-loop-m : goal.invariant-loop-m
invariant-loop-m g l = record {
  many : length l.lengths.items ≡ l.m;
  each : (a : ℕ) → a < l.m → InEachTrace g.M.SavingMachine.represents l.trace (λ st o events c. slice_index_or l.lengths.items a 0 ≡ length (c.machine a).part.log);
}
