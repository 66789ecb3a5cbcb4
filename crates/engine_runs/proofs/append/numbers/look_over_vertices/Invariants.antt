use Rattle.std.proofs.Common.{take}
use Rattle.std.specs.List.{AllByRecursion}
use Rattle.engine_runs.specs.append.Inner.Numbers.{PairFits, vertex_pair}
use Rattle.engine_runs.proofs.append.numbers.look_over_vertices.Given as goal

abbrev pub invariant-loop-pair : goal.invariant-loop-pair
invariant-loop-pair l = AllByRecursion (λ pair. PairFits (vertex_pair pair)) (take l.pair-index l.saved)
