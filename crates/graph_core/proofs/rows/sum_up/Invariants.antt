use Rattle.graph_core.proofs.RowSums.{IsSummedUpTo}
use Rattle.graph_core.proofs.rows.sum_up.Given as goal

abbrev pub invariant-loop-k : goal.invariant-loop-k
invariant-loop-k l = IsSummedUpTo l.k l.initial.starts l.starts
