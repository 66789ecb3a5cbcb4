-- The own vertices by their places are tasks, and each has its colour.
use Rattle.std.proofs.Common.{◌≡◌, ℕ, zero, suc, ◌<◌, ◌∙◌, true, Option, Some, List, [], ◌∷◌, length, option_map, get_or, ap, sym, subst, refl, arith}
use Rattle.std.specs.Prelude.{All, slice_get, slice_index_or}
use Rattle.std.proofs.lemmas.Bool.{lt-ltb}
use Rattle.std.proofs.lemmas.Option.{slice_get-get_or, slice_get-map, slice_get_within}
use Rattle.gl_base.specs.declared.numbers.Vertex.{Vertex}
use Rattle.graph_core.specs.DataGraph.{size}
use Rattle.partition.specs.declared.machine_numbers.keeping.Numbers.{Numbers}
use Rattle.partition.specs.machine_numbers.Views.{flag_there}
use Rattle.machine_core.proofs.machine_scopes.HeldLemmas.{own_in}
use Rattle.placement.specs.graphs.Placed.{Setting, is_own}
use Rattle.placement.specs.graphs.Beginnings.{BeginsAt, IsReadyPart, is_flagged}
use Rattle.placement.specs.places.Colours.{HaveColours, colours_by_place}
use Rattle.placement.specs.places.Places.{LocalView, StandByPlace}

vertex_there : (vertices : List Vertex) (k : ℕ) → k < length vertices → (v : Vertex) × (slice_get vertices k ≡ Some v)
vertex_there [] k low = absurd (omega (arith, low))
vertex_there (v ∷ vertices) zero low = (v, refl)
vertex_there (v ∷ vertices) (suc k) low = vertex_there vertices k (omega (arith, low))

-- where each vertex of the graph has a colour, so has each own one
pub low_colours : (st : Setting) (a : ℕ) (n : Numbers) → IsReadyPart st a n → HaveColours n.local (size st.graph)
low_colours st a n ready k v at low =
    let many = ready.many in
    let own : is_own n.local v ≡ true = ready.tasks_of.own v k at ∙ lt-ltb k (length n.tasks.task) (omega (arith, low, many)) in
    (own_in st n.local v ready.local own).0

pub all_coloured : (l : LocalView) (vertices : List Vertex) (many : ℕ) → StandByPlace l (length l.owned) vertices → HaveColours l many → All (λ (v : Vertex). v.0 < many) vertices
all_coloured l vertices many stand have k d low =
    have k (get_or vertices k d).0 (stand.place k (get_or vertices k d) (slice_get-get_or vertices k d low)) (subst (λ (n : ℕ). k < n) stand.many low)

module _ (st : Setting) (window : Option ℕ) (n : Numbers) (begins : BeginsAt st n.local.me.0 window n) (vertices : List Vertex) (stand : StandByPlace n.local (length n.local.owned) vertices) where
  pub as_many : length vertices ≡ length n.tasks.task
  as_many = stand.many ∙ sym begins.part.many

  -- who stands at a place is an own vertex
  pub own_there : (k : ℕ) (v : Vertex) → slice_get vertices k ≡ Some v → is_own n.local v.0 ≡ true
  own_there k v at =
      let low : k < length n.tasks.task = subst (λ (m : ℕ). k < m) as_many (slice_get_within vertices k v at) in
      begins.part.tasks_of.own v.0 k (stand.place k v at) ∙ lt-ltb k (length n.tasks.task) low

  -- and a task
  pub task_there : (k : ℕ) → k < length n.tasks.task → is_flagged n.tasks.task k ≡ true
  task_there k low =
      let one = vertex_there vertices k (subst (λ (m : ℕ). k < m) (sym as_many) low) in
      sym (ap (flag_there n.tasks.task) (stand.place k one.0 one.1)) ∙ begins.numbers.tasks one.0.0 ∙ sym (begins.part.local.own one.0.0) ∙ own_there k one.0 one.1

  -- and has its colour
  pub colour_there : (colours : List ℕ) (colour : ℕ → ℕ) → ((v : ℕ) → v < size st.graph → colour v ≡ slice_index_or colours v 0) →
      (k : ℕ) (v : Vertex) → slice_get vertices k ≡ Some v → slice_get (colours_by_place colours vertices) k ≡ Some (colour v.0)
  colour_there colours colour are k v at =
      let low = (own_in st n.local v.0 begins.part.local (own_there k v at)).0 in
      let colour_of : Vertex → ℕ = λ u. slice_index_or colours u.0 0 in
      slice_get-map colour_of vertices k ∙ ap (option_map colour_of) at ∙ ap Some (sym (are v.0 low))
