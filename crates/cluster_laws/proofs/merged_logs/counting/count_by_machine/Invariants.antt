use Rattle.std.proofs.Common.{◌≡◌, ◌<◌, ◌≤◌, ℕ, length, get_or, take, count_by}
use Rattle.cluster_laws.specs.merged_logs.Merges.{is_of}
use Rattle.cluster_laws.proofs.merged_logs.counting.count_by_machine.Given as goal

abbrev pub invariant-loop-entry : goal.invariant-loop-entry
invariant-loop-entry l =
    record {
      count : length l.counts.items ≡ l.machines;
      each : (a : ℕ) → a < l.machines → get_or l.counts.items a 0 ≡ count_by (is_of a) (take l.entry-index l.order);
      few : (a : ℕ) → get_or l.counts.items a 0 ≤ l.entry-index;
    }
