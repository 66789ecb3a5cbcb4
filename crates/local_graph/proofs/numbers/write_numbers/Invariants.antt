use Rattle.local_graph.proofs.FillLemmas.{AreWritten}
use Rattle.local_graph.proofs.numbers.write_numbers.Given as goal

abbrev pub invariant-loop-place : goal.invariant-loop-place
invariant-loop-place l = AreWritten l.fn.numbers l.numbers l.sides l.new l.place
