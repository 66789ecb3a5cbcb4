use Rattle.std.proofs.Common.{◌≡◌, length, take, vec_capacity}
use Rattle.placement.specs.places.Colours.{colours_by_place}
use Rattle.placement.proofs.places.colours.colours_of.Given as goal

abbrev pub invariant-loop-v : goal.invariant-loop-v
invariant-loop-v l =
    record {
      room : vec_capacity l.list ≡ length l.vertices;
      count : length l.list.items ≡ l.v-index;
      colours : l.list.items ≡ colours_by_place l.colours (take l.v-index l.vertices);
    }
