use Rattle.std.proofs.Common.{◌≡◌, ◌≤◌, ◌*◌, ◌++◌, ◌+◌, length, vec_capacity}
use Rattle.std.specs.Global.{Vec}
use Rattle.std.specs.List.{All, flat_map}
use Rattle.std.specs.Vec.Iter.{into_iter_items, into_iter_len}
use Rattle.cluster_step.proofs.clusters.rows.in_rows.Given as goal

abbrev pub invariant-loop : goal.invariant-loop
invariant-loop g l = record {
  whole : flat_map (λ row. row.items) l.rows.items ++ into_iter_items l.rest ≡ l.fn.list.items;
  counted : into_iter_len l.rest ≡ length (into_iter_items l.rest);
  count : length l.rows.items ≡ l.counter;
  left : l.counter * l.width + length (into_iter_items l.rest) ≡ l.many * l.width;
  long : All (λ (row : Vec g.row.T.Denot). length row.items ≡ l.width) l.rows.items;
  room : l.many ≤ vec_capacity l.rows;
}
