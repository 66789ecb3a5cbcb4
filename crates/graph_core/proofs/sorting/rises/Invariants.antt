use Rattle.std.proofs.Common.{take}
use Rattle.graph_core.specs.Inner.SortedKeys.{Rises}
use Rattle.graph_core.proofs.sorting.rises.Given as goal

abbrev pub invariant-loop-k : goal.invariant-loop-k
invariant-loop-k g l = Rises g.T.HasKey.key (take l.k l.items)
