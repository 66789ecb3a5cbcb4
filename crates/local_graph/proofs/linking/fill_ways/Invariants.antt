use Rattle.std.proofs.Common.{◌≡◌, ◌≤◌, length, map, take, vec_len, vec_capacity}
use Rattle.local_graph.specs.Inner.Ways.{way_of}
use Rattle.local_graph.proofs.linking.fill_ways.Given as goal

abbrev pub invariant-loop-half : goal.invariant-loop-half
invariant-loop-half l = record {
  items : l.list.items ≡ map way_of (take l.half-index l.halves);
  few : vec_len l.list ≤ l.half-index;
  room : length l.halves ≤ vec_capacity l.list;
}
