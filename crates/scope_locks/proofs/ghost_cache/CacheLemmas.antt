-- What is kept of each ghost after a datum was written.
use Rattle.std.proofs.Common.{◌≡◌, ◌≢◌, ◌⊎◌, ℕ, ◌+◌, ◌-◌, ◌<◌, ◌≤◌, ◌==◌, Bool, true, false, nat_lt, Option, Some, None, is_some, List, length, map, slice_get, slice_index_or, slice_set, if◌then◌else◌, refl, sym, ◌∙◌, ap, subst, ⊎_elim, arith, eq-eqb, ne_eqb}
use Rattle.std.specs.List.{All, Any, list_any}
use Rattle.std.proofs.lemmas.Bool.{cases_lt, cases_eq, cases_Bool, true≢false, eqb-true, lt-ltb, le-ltb}
use Rattle.std.proofs.lemmas.Option.{none-some, same_Some, slice_get-get_or, slice_get_within}
use Rattle.std.proofs.lemmas.List.{get_or-map, get_or-set_same, get_or-set_other, get_or_default, length-map}
use Rattle.std.proofs.lemmas.List.Folds.{list_any-from_Any, Any-from_list_any}
use Rattle.std.proofs.Math.ListN.{length-set}
use Rattle.gl_base.specs.declared.numbers.AtomNo.{AtomNo}
use Rattle.gl_base.specs.declared.atoms.GhostLine.{GhostLine}
use Rattle.gl_base.specs.declared.numbers.Vertex.{Vertex}
use Rattle.gl_base.specs.declared.scopes.Datum.{Datum}
use Rattle.gl_base.specs.vertex_places.Placing.{place_of_vertex, AreTheirPlaces}
use Rattle.scope_locks.specs.ghost_cache.Caches.{CacheView, datum_there, ghost_datum, newest, IsCache}

-- ---- which vertices are ghosts

some_place : (o : Option ℕ) → is_some o ≡ true → (k : ℕ) × (o ≡ Some k)
some_place None is = absurd (true≢false (sym is))
some_place (Some k) is = (k, refl)

abbrev nothing : Datum
nothing = record { value = 0; version = 0; mark = 0 }

-- a vertex has a datum exactly where it has a place
pub has_place : (c : CacheView) → IsCache c.places (length c.kept) → (x : ℕ) (o : Option ℕ) → place_of_vertex c.places x ≡ o → is_some (ghost_datum c x) ≡ is_some o
has_place c is x None at = ap (λ p. is_some (datum_there c.kept p)) at
has_place c is x (Some k) at =
    ap (λ p. is_some (datum_there c.kept p)) at ∙ ap is_some (slice_get-get_or c.kept k nothing (is.inside x k at))

same_truth : (a b : Bool) → (a ≡ true → b ≡ true) → (b ≡ true → a ≡ true) → a ≡ b
same_truth true b to back = sym (to refl)
same_truth false true to back = back refl
same_truth false false to back = refl

pub is_cache : (places : List (Option ℕ)) (ghosts : List GhostLine) (many : ℕ) → AreTheirPlaces places (map (λ g. g.vertex) ghosts) → many ≡ length ghosts → IsCache places many
is_cache places ghosts many are same =
    let long = length-map ghosts (λ (g : GhostLine). g.vertex) in
    let d : Vertex = record { 0 = 0 } in
    record {
      inside = λ x k at. let inside = are.inside x k at in omega arith;
      apart = λ x y k here there. sym (are.stands x k d here) ∙ are.stands y k d there;
    }

ghost_listed : (ghosts : List GhostLine) (x k : ℕ) (d : Vertex) → k < length ghosts → (slice_index_or (map (λ (g : GhostLine). g.vertex) ghosts) k d).0 ≡ x → list_any (λ g. g.vertex.0 == x) ghosts ≡ true
ghost_listed ghosts x k d within stands =
    let e : GhostLine = record { vertex = d; id = 0; atom = record { 0 = 0 } } in
    let g = slice_index_or ghosts k e in
    let read : slice_index_or (map (λ (h : GhostLine). h.vertex) ghosts) k d ≡ g.vertex = get_or-map (λ (h : GhostLine). h.vertex) ghosts k e d within in
    list_any-from_Any (λ (h : GhostLine). h.vertex.0 == x) ghosts (k, g, within, get_or_default ghosts k g e within, eq-eqb g.vertex.0 x (sym (ap (λ (v : Vertex). v.0) read) ∙ stands))

pub are_ghosts : (c : CacheView) (ghosts : List GhostLine) → AreTheirPlaces c.places (map (λ g. g.vertex) ghosts) → length c.kept ≡ length ghosts → (x : ℕ) → is_some (ghost_datum c x) ≡ list_any (λ g. g.vertex.0 == x) ghosts
are_ghosts c ghosts are same x =
    let long = length-map ghosts (λ (g : GhostLine). g.vertex) in
    let vs : List Vertex = map (λ (g : GhostLine). g.vertex) ghosts in
    let d : Vertex = record { 0 = 0 } in
    has_place c (is_cache c.places ghosts (length c.kept) are same) x (place_of_vertex c.places x) refl
    ∙ same_truth (is_some (place_of_vertex c.places x)) (list_any (λ g. g.vertex.0 == x) ghosts)
    (λ has.
    let place = some_place (place_of_vertex c.places x) has in
    let k = place.0 in
    let inside = are.inside x k place.1 in
    let stands = are.stands x k d place.1 in
    ghost_listed ghosts x k d (omega arith) stands)
    (λ listed.
    let at = Any-from_list_any (λ (g : GhostLine). g.vertex.0 == x) ghosts listed in
    let k = at.0 in
    let g = at.1 in
    let within : k < length ghosts = at.2 in
    let read : slice_index_or vs k d ≡ g.vertex = get_or-map (λ (h : GhostLine). h.vertex) ghosts k g d within ∙ ap (λ (h : GhostLine). h.vertex) at.3 in
    subst (λ n. is_some (place_of_vertex c.places n) ≡ true) (ap (λ (v : Vertex). v.0) read ∙ eqb-true g.vertex.0 x at.4) (are.placed k d (omega arith)))
