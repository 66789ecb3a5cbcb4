use Rattle.std.proofs.Common.{take}
use Rattle.std.specs.List.{AllByRecursion}
use Rattle.engine_runs.specs.append.Inner.Numbers.{PairFits, edge_pair}
use Rattle.engine_runs.proofs.append.numbers.look_over_edges.Given as goal

abbrev pub invariant-loop-pair : goal.invariant-loop-pair
invariant-loop-pair l = AllByRecursion (λ pair. PairFits (edge_pair pair)) (take l.pair-index l.saved)
