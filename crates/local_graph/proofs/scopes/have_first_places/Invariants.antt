use Rattle.std.proofs.Common.{◌≡◌, ℕ, ◌<◌, true, get_or}
use Rattle.gl_base.specs.declared.numbers.Vertex.{Vertex}
use Rattle.local_graph.specs.Locals.{place_of_vertex}
use Rattle.local_graph.specs.Inner.AtPlaces.{is_first_place}
use Rattle.local_graph.proofs.scopes.have_first_places.Given as goal

abbrev pub invariant-loop-v : goal.invariant-loop-v
invariant-loop-v l = (k : ℕ) (d : Vertex) → k < l.v-index → is_first_place l.standing.many (place_of_vertex l.standing.places.now (get_or l.owned k d).0) ≡ true
