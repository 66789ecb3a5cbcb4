use Rattle.std.proofs.Common.{◌≡◌, ℕ, ◌+◌, ◌≤◌, ◌==◌, ◌&&◌, ◌||◌, nat_lt, if◌then◌else◌, length, take, vec_len, vec_capacity}
use Rattle.std.specs.List.{list_any}
use Rattle.local_graph.specs.Locals.{place_of_vertex}
use Rattle.local_graph.specs.Played.{numbers_of}
use Rattle.local_graph.specs.Inner.AtPlaces.{number_among, is_first_place}
use Rattle.local_graph.proofs.scopes.list_near.Given as goal

abbrev pub invariant-loop-side : goal.invariant-loop-side
invariant-loop-side l = record {
  has : (x : ℕ) → (number_among x (numbers_of l.list.items) || (l.waits && x == l.v.0))
      ≡ ((is_first_place l.standing.many (place_of_vertex l.standing.places.now l.v.0) && x == l.v.0) || list_any (λ s. nat_lt s.place l.standing.many && s.other.0 == x) (take l.side-index l.sides));
  room : vec_len l.list + (if l.waits then 1 else 0) ≤ l.side-index + 1;
  enough : length l.sides + 1 ≤ vec_capacity l.list;
}
