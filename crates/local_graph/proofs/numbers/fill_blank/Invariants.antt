use Rattle.std.proofs.Common.{[]}
use Rattle.local_graph.proofs.FillLemmas.{AreFilled}
use Rattle.local_graph.proofs.numbers.fill_blank.Given as goal

abbrev pub invariant-loop-side : goal.invariant-loop-side
invariant-loop-side l = AreFilled l.filled l.sides [] l._side-index
