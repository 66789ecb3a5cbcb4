use Rattle.std.proofs.Common.{◌≡◌, length}
use Rattle.placement.proofs.graphs.AllLemmas.{BeginSoFar}
use Rattle.placement.proofs.graphs.beginning.first_numbers_of_all.Given as goal

abbrev pub invariant-loop-local : goal.invariant-loop-local
invariant-loop-local l =
    record {
      count : length l.all.items ≡ length l.yielded;
      begun : BeginSoFar l.fn.parts.items l.base l.window l.all.items;
    }
