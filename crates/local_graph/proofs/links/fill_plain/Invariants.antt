use Rattle.std.proofs.Common.{◌≡◌, ◌≤◌, replicate, vec_len, vec_capacity}
use Rattle.local_graph.specs.Inner.Ways.{links_along, plain_way}
use Rattle.local_graph.proofs.links.fill_plain.Given as goal

abbrev pub invariant-loop-place : goal.invariant-loop-place
invariant-loop-place l = record {
  items : l.links.items ≡ links_along 0 (replicate l.place plain_way);
  many : vec_len l.links ≡ l.place;
  room : l.count ≤ vec_capacity l.links;
}
