-- The greatest supported number is between the low number and the high one, and the next look is at one between.
use Rattle.std.proofs.Common.{◌≤◌, ◌<◌, ◌-◌}
use Rattle.update_api.specs.Scopes.{nears}
use Rattle.graph_programs.proofs.prog_cores.BoundLaws.{IsBetween}
use Rattle.graph_programs.proofs.prog_cores.cores.greatest_supported.Given as goal

abbrev pub invariant-loop-low : goal.invariant-loop-low
invariant-loop-low l =
    record {
      between : IsBetween l.most l.low l.high (nears l.scope);
      above : l.low < l.high → l.low < l.looked;
      below : l.looked ≤ l.high;
    }

abbrev pub decreases-loop-low : goal.decreases-loop-low
decreases-loop-low l = l.high - l.low
