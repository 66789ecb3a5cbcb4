use Rattle.graph_core.proofs.IdRanges.{AreRangesTo}
use Rattle.graph_core.proofs.id_table.Ranges.new.Given as goal

abbrev pub invariant-loop-k : goal.invariant-loop-k
invariant-loop-k l = AreRangesTo l.k l.ids l.least l.shift l.starts.items
