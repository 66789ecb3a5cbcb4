use Rattle.std.proofs.Common.{◌≡◌, ◌≤◌}
use Rattle.cluster_laws.specs.cluster_model.Totals.{total}
use Rattle.recovery.proofs.restarts.Counting.{one_at}
use Rattle.recovery.proofs.restarts.failing.count_failed.Given as goal

abbrev pub invariant-loop-at : goal.invariant-loop-at
invariant-loop-at l =
    record {
      sum : l.failed ≡ total l.at (one_at l.flags);
      bound : l.failed ≤ l.at;
    }
