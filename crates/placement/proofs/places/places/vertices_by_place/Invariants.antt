use Rattle.std.proofs.Common.{◌≡◌, length}
use Rattle.placement.proofs.places.PlaceLemmas.{StandSoFar}
use Rattle.placement.proofs.places.places.vertices_by_place.Given as goal

abbrev pub invariant-loop-v : goal.invariant-loop-v
invariant-loop-v l =
    record {
      many : length l.vertices.items ≡ length l.local.owned;
      stand : StandSoFar l.local l.vertices.items l.v-index;
    }
