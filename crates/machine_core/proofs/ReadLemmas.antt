-- What is read of a machine's tasks.
use Rattle.std.proofs.Common.{◌≡◌, ℕ, ◌<◌, true, Some, length, get_or, refl, sym, ap, ◌∙◌, subst}
use Rattle.std.proofs.lemmas.Bool.{lt-ltb}
use Rattle.std.proofs.lemmas.Option.{slice_get_read}
use Rattle.gl_base.specs.declared.numbers.Vertex.{Vertex}
use Rattle.partition.specs.machine_numbers.Views.{flag_there, is_flagged}
use Rattle.machine_core.specs.declared.machine_parts.cores.Core.{Core}
use Rattle.machine_core.specs.machine_parts.Order.{IsOrderly, KnowsPlaces}
use Rattle.machine_core.specs.machine_parts.Parts.{is_own, place_at, task_here}
use Rattle.machine_core.proofs.machine_scopes.PickLemmas.{flag_inside}

module _ (m : Core) (k : ℕ) (v : Vertex) (places : KnowsPlaces m) (flagged : is_flagged m.numbers.tasks.task k ≡ true) (read : v ≡ get_or m.by_place.items k v) where
  place_is : place_at m.numbers.local v.0 ≡ Some k
  place_is =
      let inside = subst (λ (n : ℕ). k < n) (sym places.vertices.many) (flag_inside m.numbers.tasks.task k flagged) in
      places.vertices.place k v (slice_get_read m.by_place.items (length m.by_place.items) k v refl inside read)

  -- the vertex at the place of a task is one
  pub task_there : task_here m.numbers v.0 ≡ true
  task_there = ap (flag_there m.numbers.tasks.task) place_is ∙ flagged

  -- and the machine's own
  pub task_own : IsOrderly m → is_own m.numbers.local v.0 ≡ true
  task_own orderly = orderly.numbers.tasks.own v.0 k place_is ∙ lt-ltb k (length m.numbers.tasks.task) (flag_inside m.numbers.tasks.task k flagged)
