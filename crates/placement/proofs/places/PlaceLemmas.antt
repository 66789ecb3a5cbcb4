-- The own vertices of a machine, each at its place.
use Rattle.std.proofs.Common.{◌≡◌, ◌≢◌, ◌<◌, ◌+◌, ℕ, ◌∙◌, true, Option, Some, None, is_some, List, length, get_or, set, ap, sym, refl, inl, inr, arith, true≢false}
use Rattle.std.specs.Prelude.{slice_get}
use Rattle.std.proofs.lemmas.Bool.{cases_eq, cases_lt, ltb-true}
use Rattle.std.proofs.lemmas.List.{get_or-set_other, get_or-set_same, length-set}
use Rattle.std.proofs.lemmas.Option.{get_or_from_slice_get, none-some, same_Some, slice_get-get_or, slice_get-map, slice_get_within}
use Rattle.gl_base.specs.declared.numbers.Vertex.{Vertex}
use Rattle.graph_core.specs.DataGraph.{size}
use Rattle.graph_core.specs.Growth.{numbers_of}
use Rattle.local_graph.specs.Locals.{got_at}
use Rattle.machine_core.proofs.GraphLemmas.{passing_up}
use Rattle.partition.specs.declared.machine_numbers.keeping.Numbers.{Numbers}
use Rattle.machine_core.specs.machine_parts.Parts.{number_of}
use Rattle.placement.specs.graphs.Placed.{Setting, is_own}
use Rattle.placement.specs.graphs.Beginnings.{IsReadyPart}
use Rattle.placement.proofs.graphs.BeginLemmas.{owned_by, owned_own}
use Rattle.placement.specs.places.Places.{HasPlaceBelow, HaveFirstPlaces, LocalView, StandByPlace, place_at}
use Rattle.placement.proofs.places.OntoLemmas.{onto}

vertex_is : (v w : Vertex) → v.0 ≡ w.0 → v ≡ w
vertex_is v w same = ap (λ (n : ℕ). record { 0 = n }) same

-- the first so many own vertices stand at their places
abbrev pub StandSoFar : LocalView → List Vertex → ℕ → Type 0
StandSoFar l vertices many = (j : ℕ) (w : Vertex) (k : ℕ) → j < many → slice_get l.owned j ≡ Some w → place_at l w.0 ≡ Some k → slice_get vertices k ≡ Some w

-- a place lies in the list
pub place_low : (l : LocalView) (vertices : List Vertex) (i k : ℕ) (v : Vertex) → HaveFirstPlaces l → length vertices ≡ length l.owned → slice_get l.owned i ≡ Some v → place_at l v.0 ≡ Some k → k < length vertices
place_low l vertices i k v first many at place =
    let has = first.below i v at in
    let here : has.place ≡ k = same_Some has.place k (sym has.is ∙ place) in
    omega (arith, here, has.below, many)

-- one more does
pub stand_more : (l : LocalView) (vertices : List Vertex) (i k : ℕ) (v : Vertex) → HaveFirstPlaces l → length vertices ≡ length l.owned → slice_get l.owned i ≡ Some v → place_at l v.0 ≡ Some k →
    StandSoFar l vertices i → StandSoFar l (set vertices k v) (i + 1)
stand_more l vertices i k v first many at place so_far = λ j w p below there stands. elim (cases_eq p k) [
  | inl same ↦
      let is : w ≡ v = vertex_is w v (first.apart w.0 v.0 k (stands ∙ ap (λ (n : ℕ). Some n) same) place) in
      let low = place_low l vertices i k v first many at place in
      ap (slice_get (set vertices k v)) same ∙ slice_get-get_or (set vertices k v) k v (omega (arith, low, length-set vertices k v)) ∙ ap (λ (x : Vertex). Some x) (get_or-set_same vertices k v v low ∙ sym is)
  | inr other ↦
      let before : j ≢ i = λ e.
      let is : w ≡ v = same_Some w v (sym there ∙ ap (slice_get l.owned) e ∙ at) in
      other (same_Some p k (sym stands ∙ ap (λ (x : Vertex). place_at l x.0) is ∙ place)) in
      let was = so_far j w p (omega (arith, below, before)) there stands in
      let low = slice_get_within vertices p w was in
      slice_get-get_or (set vertices k v) p w (omega (arith, low, length-set vertices k v))
      ∙ ap (λ (x : Vertex). Some x) (get_or-set_other vertices k p v w other ∙ get_or_from_slice_get vertices p w w was)
]

-- an own vertex has a place
pub has_place : (l : LocalView) (i : ℕ) (v : Vertex) → HaveFirstPlaces l → slice_get l.owned i ≡ Some v → place_at l v.0 ≡ None → ⊥
has_place l i v first at none =
    let has = first.below i v at in
    none-some has.place (sym none ∙ has.is)

number_or_zero : Option ℕ → ℕ
number_or_zero None = 0
number_or_zero (Some k) = k

-- where all do, the list has them by their places
pub stand_all : (l : LocalView) (vertices : List Vertex) → HaveFirstPlaces l → length vertices ≡ length l.owned → StandSoFar l vertices (length l.owned) → StandByPlace l (length l.owned) vertices
unfolding number_or_zero
stand_all l vertices first many all =
    record {
      many = many;
      place = λ k v at.
          let low = slice_get_within vertices k v at in
          let found = onto (length l.owned) place_of places_low places_apart k (omega (arith, low, many)) in
          let has = has_at found.0 found.1 in
          let is : place_at l (own_at found.0).0 ≡ Some k = has.is ∙ ap (λ (n : ℕ). Some n) (sym (ap number_or_zero has.is) ∙ found.2) in
          let here = all found.0 (own_at found.0) k found.1 (listed found.0 found.1) is in
          let same : own_at found.0 ≡ v = same_Some (own_at found.0) v (sym here ∙ at) in
          ap (λ (x : Vertex). place_at l x.0) (sym same) ∙ is;
    }
  where
    own_at : ℕ → Vertex
    own_at i = get_or l.owned i (record { 0 = 0 })

    place_of : ℕ → ℕ
    place_of i = number_or_zero (place_at l (own_at i).0)

    listed : (i : ℕ) → i < length l.owned → slice_get l.owned i ≡ Some (own_at i)
    listed i low = slice_get-get_or l.owned i (record { 0 = 0 }) low

    has_at : (i : ℕ) → i < length l.owned → HasPlaceBelow l (length l.owned) (own_at i).0
    has_at i low = first.below i (own_at i) (listed i low)

    places_low : (i : ℕ) → i < length l.owned → place_of i < length l.owned
    places_low i low =
        let has = has_at i low in
        let is : place_of i ≡ has.place = ap number_or_zero has.is in
        omega (arith, is, has.below)

    places_apart : (i j : ℕ) → i < length l.owned → j < length l.owned → place_of i ≡ place_of j → i ≡ j
    places_apart i j low below same =
        let has = has_at i low in
        let also = has_at j below in
        let one : has.place ≡ also.place = sym (ap number_or_zero has.is) ∙ same ∙ ap number_or_zero also.is in
        let is = vertex_is (own_at i) (own_at j) (first.apart (own_at i).0 (own_at j).0 also.place (has.is ∙ ap (λ (n : ℕ). Some n) one) also.is) in
        first.once i j (own_at i) (listed i low) (listed j below ∙ ap (λ (x : Vertex). Some x) (sym is))

-- ---- a machine that is ready to begin

module _ (st : Setting) (a : ℕ) (n : Numbers) (ready : IsReadyPart st a n) where
  own_of : (i : ℕ) (v : Vertex) → slice_get n.local.owned i ≡ Some v → is_own n.local v.0 ≡ true
  own_of i v at =
      let own = owned_own st n.local ready.local i v (slice_get_within n.local.owned i v at) in
      ap (λ (x : Vertex). is_own n.local x.0) (sym (get_or_from_slice_get n.local.owned i v v at)) ∙ own

  has_first : (v : ℕ) → is_own n.local v ≡ true → (o : Option ℕ) → place_at n.local v ≡ o → HasPlaceBelow n.local (length n.local.owned) v
  has_first v own None at = absurd (true≢false (sym own ∙ ap (λ (o : Option ℕ). is_some (got_at n.local.kept o)) at))
  has_first v own (Some k) at =
      let low = ltb-true k (length n.tasks.task) (sym (ready.tasks_of.own v k at) ∙ own) in
      record { place = k; is = at; below = omega (arith, low, ready.many) }

  number_at : (i : ℕ) (v : Vertex) → slice_get n.local.owned i ≡ Some v → slice_get (numbers_of n.local.owned) i ≡ Some v.0
  number_at i v at = slice_get-map (λ (x : Vertex). x.0) n.local.owned i ∙ ap number_of at

  ascend : (i j : ℕ) (v w : Vertex) → slice_get n.local.owned i ≡ Some v → slice_get n.local.owned j ≡ Some w → i < j → v.0 < w.0
  ascend i j v w at also less =
      passing_up (owned_by st n.local.me.0) 0 (size st.graph) i j v.0 w.0
      (ap (λ (ns : List ℕ). slice_get ns i) (sym ready.local.owned) ∙ number_at i v at)
      (ap (λ (ns : List ℕ). slice_get ns j) (sym ready.local.owned) ∙ number_at j w also) less

  pub first_places : HaveFirstPlaces n.local
  first_places =
      record {
        apart = ready.tasks_of.apart;
        below = λ i v at. has_first v.0 (own_of i v at) (place_at n.local v.0) refl;
        once = λ i j v at also. elim (cases_eq i j) [
          | inl same ↦ same
          | inr other ↦ absurd (elim (cases_lt i j) [
            | inl before ↦ let less = ascend i j v v at also before in omega arith
            | inr past ↦ let less = ascend j i v v also at (omega (arith, past, other)) in omega arith
          ])
        ];
      }
