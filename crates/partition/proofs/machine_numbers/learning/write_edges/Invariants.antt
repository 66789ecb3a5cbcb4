use Rattle.partition.proofs.machine_numbers.LearnLemmas.{AreLearned}
use Rattle.partition.proofs.machine_numbers.learning.write_edges.Given as goal

abbrev pub invariant-loop-place : goal.invariant-loop-place
invariant-loop-place l = AreLearned l.fn.local l.local l.edges l.place
