use Rattle.std.proofs.Common.{take}
use Rattle.std.specs.List.{AllByRecursion}
use Rattle.engine_runs.specs.append.Inner.Numbers.{PairFits, part_edges, part_vertices}
use Rattle.engine_runs.proofs.append.numbers.look_over_parts.Given as goal

abbrev pub invariant-loop-part : goal.invariant-loop-part
invariant-loop-part l =
    record {
      vertices : AllByRecursion (λ part. AllByRecursion PairFits (part_vertices part)) (take l.part-index l.parts);
      edges : AllByRecursion (λ part. AllByRecursion PairFits (part_edges part)) (take l.part-index l.parts);
    }
