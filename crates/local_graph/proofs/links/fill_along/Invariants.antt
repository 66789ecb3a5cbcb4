use Rattle.std.proofs.Common.{◌≡◌, ◌≤◌, length, take, vec_len, vec_capacity}
use Rattle.local_graph.specs.Inner.Ways.{links_along}
use Rattle.local_graph.proofs.links.fill_along.Given as goal

abbrev pub invariant-loop-place : goal.invariant-loop-place
invariant-loop-place l = record {
  items : l.links.items ≡ links_along 0 (take l.place l.ways);
  many : vec_len l.links ≡ l.place;
  room : length l.ways ≤ vec_capacity l.links;
  few : length l.ways ≤ 4294967295;
}
