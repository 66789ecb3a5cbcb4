use Rattle.std.proofs.Common.{ℕ, ◌<◌, ◌≤◌, get_or}
use Rattle.seq_run.proofs.runs.least_start.Given as goal

abbrev pub invariant-loop-v : goal.invariant-loop-v
invariant-loop-v l =
    record {
      inside : 0 < l.count → l.least < l.count;
      seen : l.least ≤ l.v;
      least : (u : ℕ) → u < l.v → get_or l.values l.least 0 ≤ get_or l.values u 0;
      first : (u : ℕ) → u < l.least → get_or l.values l.least 0 < get_or l.values u 0;
    }
