use Rattle.std.proofs.Common.{◌≡◌, ◌≤◌, length, map, take, vec_len, vec_capacity}
use Rattle.local_graph.specs.Played.{side_of, sides_kept}
use Rattle.local_graph.proofs.siding.fill_sides.Given as goal

abbrev pub invariant-loop-half : goal.invariant-loop-half
invariant-loop-half l = record {
  items : l.list.items ≡ sides_kept l.is_own l.standing.many (map (side_of l.standing.me l.standing.many l.standing.ghosts.now l.standing.places.now) (take l.half-index l.halves));
  few : vec_len l.list ≤ l.half-index;
  room : length l.halves ≤ vec_capacity l.list;
}
