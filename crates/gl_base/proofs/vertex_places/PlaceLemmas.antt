-- How vertices get their places.
use Rattle.std.proofs.Common.{◌≡◌, ◌≢◌, ◌⊎◌, ℕ, ◌+◌, ◌-◌, ◌<◌, ◌≤◌, Bool, true, false, Option, Some, None, is_some, List, length, map, nat_lt, slice_index, slice_index_or, slice_set, if◌then◌else◌, refl, sym, ◌∙◌, ap, subst, ⊎_elim, arith}
use Rattle.std.specs.List.{All}
use Rattle.std.proofs.lemmas.Bool.{cases_lt, cases_eq, lt-ltb, le-ltb}
use Rattle.std.proofs.lemmas.Option.{none-some, same_Some}
use Rattle.std.proofs.lemmas.List.{length-map, get_or-map, get_or-set_same, get_or-set_other, get_or_default, get_or_past}
use Rattle.std.proofs.Math.ListN.{length-set}
use Rattle.gl_base.specs.declared.numbers.Vertex.{Vertex}
use Rattle.gl_base.specs.vertex_places.Placing.{place_of_vertex, AreTheirPlaces, place_below, places_below}
use Rattle.gl_base.specs.vertex_places.Inner.Numbering.{HavePlaces}

below-is : (bound number : ℕ) → number < bound → place_below bound number ≡ Some number
below-is bound number less = rw (lt-ltb number bound less)

below-not : (bound number : ℕ) → bound ≤ number → place_below bound number ≡ None
below-not bound number past = rw (le-ltb number bound past)

-- the place that a vertex has is its number
pub number_is : (bound : ℕ) (numbers : List ℕ) (x k : ℕ) → place_of_vertex (places_below bound numbers) x ≡ Some k → (x < length numbers) × (k < bound) × (slice_index numbers x ≡ k)
number_is bound numbers x k is = ⊎_elim
    (λ (within : x < length numbers).
    let read = get_or-map (place_below bound) numbers x 0 None within in
    ⊎_elim
    (λ (less : slice_index numbers x < bound).
    let same = same_Some (slice_index numbers x) k (sym (read ∙ below-is bound (slice_index numbers x) less) ∙ is) in
    (within, omega arith, same))
    (λ (past : bound ≤ slice_index numbers x). absurd (none-some k (sym (read ∙ below-not bound (slice_index numbers x) past) ∙ is)))
    (cases_lt (slice_index numbers x) bound))
    (λ (past : length numbers ≤ x).
    let long = length-map numbers (place_below bound) in
    absurd (none-some k (sym (get_or_past (places_below bound numbers) x None (omega arith)) ∙ is)))
    (cases_lt x (length numbers))

pub are_places : (vertices : List Vertex) (count i : ℕ) (numbers : List ℕ) → HavePlaces vertices count i numbers → i ≡ length vertices → All (λ v. v.0 < count) vertices → AreTheirPlaces (places_below (length vertices) numbers) vertices
are_places vertices count i numbers is whole below =
    let many = is.many in
    record {
      placed = λ k d inside.
          let x = (slice_index_or vertices k d).0 in
          let low : x < count = below k d inside in
          let less = is.placed k d (omega arith) in
          ap is_some (get_or-map (place_below (length vertices)) numbers x 0 None (omega arith) ∙ below-is (length vertices) (slice_index numbers x) (omega arith));
      inside = λ x k at. (number_is (length vertices) numbers x k at).1;
      stands = λ x k d at.
          let number = number_is (length vertices) numbers x k at in
          let within = number.0 in
          let less = number.1 in
          let same = number.2 in
          ap (λ n. (slice_index_or vertices n d).0) (sym same) ∙ is.stands x d (omega arith) (omega arith);
    }
