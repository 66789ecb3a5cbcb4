use Rattle.std.proofs.Common.{◌≡◌, ◌++◌, length}
use Rattle.std.specs.List.{flat_map}
use Rattle.std.specs.Vec.Iter.{into_iter_items, into_iter_len}
use Rattle.cluster_step.proofs.clusters.rows.flat.Given as goal

abbrev pub invariant-loop-row : goal.invariant-loop-row
invariant-loop-row g l = record {
  whole : l.list.items ++ flat_map (λ row. row.items) (into_iter_items l.row-iterator) ≡ flat_map (λ row. row.items) (into_iter_items l.initial.row-iterator);
  many : into_iter_len l.row-iterator ≡ length (into_iter_items l.row-iterator);
}
