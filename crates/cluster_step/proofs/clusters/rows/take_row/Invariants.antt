use Rattle.std.proofs.Common.{◌≡◌, ◌≤◌, ◌++◌, length, vec_capacity}
use Rattle.std.specs.Vec.Iter.{into_iter_items, into_iter_len}
use Rattle.cluster_step.proofs.clusters.rows.take_row.Given as goal

abbrev pub invariant-loop : goal.invariant-loop
invariant-loop g l = record {
  whole : l.row.items ++ into_iter_items l.rest ≡ into_iter_items l.initial.rest;
  counted : into_iter_len l.rest ≡ length (into_iter_items l.rest);
  count : length l.row.items ≡ l.counter;
  room : l.width ≤ vec_capacity l.row;
}
