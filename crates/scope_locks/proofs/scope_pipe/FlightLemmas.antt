-- What becomes of the scopes in flight.
use Rattle.std.proofs.Common.{◌≡◌, ◌≢◌, ℕ, ◌+◌, ◌-◌, ◌<◌, ◌≤◌, ◌==◌, Bool, true, false, ◌||◌, Option, Some, None, is_some, option_map, List, [], ◌∷◌, ◌++◌, length, slice_index_or, slice_set, take, if◌then◌else◌, refl, sym, ◌∙◌, ap, ap₂, subst, ⊎_elim, arith, ne_eqb, eq-eqb}
use Rattle.std.specs.List.{All, AllPairs, list_any, position, position_or_len, swap_remove}
use Rattle.std.proofs.lemmas.Bool.{cases_Bool, cases_eq, cases_lt, lt-ltb, true≢false, eqb-true, and_right}
use Rattle.std.proofs.lemmas.Option.{none-some, same_Some}
use Rattle.std.proofs.lemmas.List.{get_or_default, length_push}
use Rattle.std.proofs.lemmas.List.Quantifiers.{position-Some}
use Rattle.std.proofs.lemmas.List.Sums.{fails_before_first}
use Rattle.std.proofs.lemmas.List.Elements.{All-push, All-weaker}
use Rattle.std.proofs.lemmas.List.Folds.{list_any-from_Any, Any-from_list_any}
use Rattle.gl_base.specs.declared.numbers.Vertex.{Vertex}
use Rattle.gl_base.specs.declared.scopes.ScopeId.{ScopeId}
use Rattle.gl_base.specs.scope_lists.Scopes.{is_scope, set_for}
use Rattle.gl_base.specs.scope_lists.Found.{by_scope, AreOfTwoScopes, StandsAt}
use Rattle.gl_base.proofs.scope_lists.SameScope.{same_scope, scopes_same, one_or_two, set_for-here, set_for-there}
use Rattle.gl_base.proofs.scope_lists.FoundLemmas.{apart_places, found_at, found_none, none_found, found_place, found_pushed, apart_pushed}
use Rattle.gl_base.proofs.scope_lists.Edited.{found_swapped, apart_swapped, all_swapped, length-swap_removed}
use Rattle.scope_locks.specs.scope_pipe.Inner.Kept.{IsPipe}
use Rattle.scope_locks.specs.declared.scope_pipe.flights.Flight.{Flight}
use Rattle.scope_locks.specs.scope_pipe.Pipes.{PipeView, flight_scope, either, flight_at, is_ready, flight_count, Flies, next_id, HasAdmitted, HasReadied, HasFinished, taken_from, without_flight}

abbrev pub centre_of : Option Flight → Option Vertex
centre_of o = option_map (λ (f : Flight). f.centre) o

-- ---- whether a vertex has a scope in flight

abbrev pub is_at : Vertex → Flight → Bool
is_at v f = f.centre.0 == v.0

same_vertex : (u v : Vertex) → u.0 ≡ v.0 → u ≡ v
same_vertex u v same = λ i. record { 0 = same i }

listed : (flights : List Flight) (v : Vertex) → AllPairs (AreOfTwoScopes flight_scope) flights → list_any (is_at v) flights ≡ true → (f : Flight) × (by_scope flight_scope flights f.scope ≡ Some f) × (f.centre ≡ v)
listed flights v apart has_it =
    let at = Any-from_list_any (is_at v) flights has_it in
    let k = at.0 in
    let f = at.1 in
    let here : is_scope (slice_index_or flights k f).scope f.scope ≡ true = subst (λ (g : Flight). is_scope g.scope f.scope ≡ true) (sym at.3) (same_scope f.scope) in
    (f, found_at flight_scope flights f.scope k f apart at.2 here ∙ ap Some at.3, same_vertex f.centre v (eqb-true f.centre.0 v.0 at.4))

not_listed : (flights : List Flight) (v : Vertex) (s : ScopeId) (f : Flight) → list_any (is_at v) flights ≡ false → by_scope flight_scope flights s ≡ Some f → f.centre ≡ v → ⊥
not_listed flights v s f none is there =
    let place = found_place flight_scope flights s f is in
    let has_it = list_any-from_Any (is_at v) flights (place.0, f, place.1, place.2, eq-eqb f.centre.0 v.0 (ap (λ (u : Vertex). u.0) there)) in
    true≢false (sym has_it ∙ none)

pub flies_waiting : (p : PipeView) (v : Vertex) → AllPairs (AreOfTwoScopes flight_scope) p.waiting → list_any (is_at v) p.waiting ≡ true → Flies p v
flies_waiting p v apart has_it =
    let one = listed p.waiting v apart has_it in
    record { scope = one.0.scope; centre = ap (λ o. centre_of (either o (by_scope flight_scope p.ready one.0.scope))) one.1 ∙ ap Some one.2 }

across_turned : (p : PipeView) (s : ScopeId) (f : Flight) → ((t : ScopeId) → is_some (by_scope flight_scope p.ready t) ≡ true → by_scope flight_scope p.waiting t ≡ None) → by_scope flight_scope p.ready s ≡ Some f → by_scope flight_scope p.waiting s ≡ None
across_turned p s f across is = across s (ap is_some is)

pub flies_ready : (p : PipeView) (v : Vertex) → AllPairs (AreOfTwoScopes flight_scope) p.ready → ((t : ScopeId) → is_some (by_scope flight_scope p.ready t) ≡ true → by_scope flight_scope p.waiting t ≡ None) → list_any (is_at v) p.ready ≡ true → Flies p v
flies_ready p v apart across has_it =
    let one = listed p.ready v apart has_it in
    let none = across_turned p one.0.scope one.0 across one.1 in
    record { scope = one.0.scope; centre = ap₂ (λ o q. centre_of (either o q)) none one.1 ∙ ap Some one.2 }

flies_not-at : (p : PipeView) (v : Vertex) (s : ScopeId) (here there : Option Flight) → list_any (is_at v) p.waiting ≡ false → list_any (is_at v) p.ready ≡ false → by_scope flight_scope p.waiting s ≡ here → by_scope flight_scope p.ready s ≡ there → centre_of (either here there) ≡ Some v → ⊥
flies_not-at p v s (Some f) there waits readies is other centre = not_listed p.waiting v s f waits is (same_Some f.centre v centre)
flies_not-at p v s None (Some f) waits readies is other centre = not_listed p.ready v s f readies other (same_Some f.centre v centre)
flies_not-at p v s None None waits readies is other centre = none-some v centre

pub flies_not : (p : PipeView) (v : Vertex) → list_any (is_at v) p.waiting ≡ false → list_any (is_at v) p.ready ≡ false → Flies p v → ⊥
flies_not p v waits readies is = flies_not-at p v is.scope (by_scope flight_scope p.waiting is.scope) (by_scope flight_scope p.ready is.scope) waits readies refl refl is.centre

-- ---- the next serial

none_given : (flights : List Flight) (s : ScopeId) → All (λ f. f.scope.serial < s.serial) flights → by_scope flight_scope flights s ≡ None
none_given flights s given = none_found flight_scope flights s
    (λ k d within.
    let f = slice_index_or flights k d in
    let less = given k d within in
    and_right (f.scope.home.0 == s.home.0) (f.scope.serial == s.serial) (ne_eqb f.scope.serial s.serial (omega arith)))

pub is_new : (p : PipeView) → All (λ f. f.scope.serial < p.serial) p.waiting → All (λ f. f.scope.serial < p.serial) p.ready → flight_at p (next_id p) ≡ None
is_new p waiting ready = ap₂ (λ o q. centre_of (either o q)) (none_given p.waiting (next_id p) waiting) (none_given p.ready (next_id p) ready)

-- ---- one of them is looked at

pub at_waiting : (p : PipeView) (s : ScopeId) (i : ℕ) (f : Flight) → AllPairs (AreOfTwoScopes flight_scope) p.waiting → StandsAt flight_scope p.waiting s i → f ≡ slice_index_or p.waiting i f → flight_at p s ≡ Some f.centre
at_waiting p s i f apart at read = ap (λ o. centre_of (either o (by_scope flight_scope p.ready s))) (found_at flight_scope p.waiting s i f apart at.inside (at.is f) ∙ ap Some (sym read))

pub at_ready : (p : PipeView) (s : ScopeId) (i : ℕ) (f : Flight) → AllPairs (AreOfTwoScopes flight_scope) p.ready → by_scope flight_scope p.waiting s ≡ None → StandsAt flight_scope p.ready s i → f ≡ slice_index_or p.ready i f → flight_at p s ≡ Some f.centre
at_ready p s i f apart none at read = ap₂ (λ o q. centre_of (either o q)) none (found_at flight_scope p.ready s i f apart at.inside (at.is f) ∙ ap Some (sym read))

-- ---- one more is admitted

abbrev pub flight_of : PipeView → Vertex → Flight
flight_of p v = record { scope = next_id p; centre = v }

abbrev pub admitted : PipeView → Vertex → PipeView
admitted p v = record p { serial = p.serial + 1; waiting = p.waiting ++ flight_of p v ∷ [] }

abbrev pub IsKept : PipeView → ℕ → ℕ → ℕ → Type 0
IsKept p waiting_cap ready_cap entered_cap = IsPipe p.serial p.width p.waiting p.ready p.entered waiting_cap ready_cap entered_cap

either_if : (b : Bool) (f : Flight) (here there : Option Flight) → centre_of (either (if b then Some f else here) there) ≡ (if b then Some f.centre else centre_of (either here there))
either_if true f here there = refl
either_if false f here there = refl

pub has_admitted : (p : PipeView) (v : Vertex) → All (λ f. f.scope.serial < p.serial) p.waiting → HasAdmitted p (admitted p v) v
has_admitted p v given = record {
  serial = refl;
  count = let long = length_push p.waiting (flight_of p v) in omega arith;
  flight = λ t. ap (λ o. centre_of (either o (by_scope flight_scope p.ready t))) (found_pushed flight_scope p.waiting (flight_of p v) (none_given p.waiting (next_id p) given) t)
      ∙ either_if (is_scope t (next_id p)) (flight_of p v) (by_scope flight_scope p.waiting t) (by_scope flight_scope p.ready t);
  ready = λ t. refl;
}

pub admit_keeps : (p : PipeView) (v : Vertex) (waiting_cap ready_cap entered_cap : ℕ) → IsKept p waiting_cap ready_cap entered_cap → flight_count p < p.width → IsKept (admitted p v) waiting_cap ready_cap entered_cap
admit_keeps p v waiting_cap ready_cap entered_cap is room =
    let none = none_given p.waiting (next_id p) is.waiting_given in
    let pushed = found_pushed flight_scope p.waiting (flight_of p v) none in
    record {
      waiting_apart = apart_pushed flight_scope p.waiting (flight_of p v) is.waiting_apart none;
      ready_apart = is.ready_apart;
      across = λ s some. ⊎_elim
          (λ (same : s ≡ next_id p). absurd (true≢false (sym some ∙ ap is_some (ap (by_scope flight_scope p.ready) same ∙ none_given p.ready (next_id p) is.ready_given))))
          (λ (other : is_scope s (next_id p) ≡ false). pushed s ∙ (set_for-there (by_scope flight_scope p.waiting) (next_id p) s (Some (flight_of p v)) other ∙ is.across s some))
          (one_or_two s (next_id p));
      waiting_given = All-push (λ (f : Flight). f.scope.serial < p.serial + 1) p.waiting (flight_of p v)
          (All-weaker (λ (f : Flight). f.scope.serial < p.serial) (λ (f : Flight). f.scope.serial < p.serial + 1) (λ f less. omega arith) p.waiting is.waiting_given) (omega arith);
      ready_given = All-weaker (λ (f : Flight). f.scope.serial < p.serial) (λ (f : Flight). f.scope.serial < p.serial + 1) (λ f less. omega arith) p.ready is.ready_given;
      few = let long = length_push p.waiting (flight_of p v) in omega arith;
      waiting_room = is.waiting_room;
      ready_room = is.ready_room;
      entered_apart = is.entered_apart;
      in_part = is.in_part;
      entered_room = is.entered_room;
    }

-- ---- one of them is ready

abbrev pub readied : PipeView → ℕ → Flight → PipeView
readied p i f = record p { waiting = swap_remove p.waiting i f; ready = p.ready ++ f ∷ [] }

none_of : (o : Option Flight) → is_some o ≡ false → o ≡ None
none_of None is = refl
none_of (Some f) is = absurd (true≢false is)

pub none_ready : (p : PipeView) (s : ScopeId) → is_ready p s ≡ false → by_scope flight_scope p.ready s ≡ None
none_ready p s is = none_of (by_scope flight_scope p.ready s) is

if_some : (b : Bool) (f : Flight) (o : Option Flight) → is_some (if b then Some f else o) ≡ (if b then true else is_some o)
if_some true f o = refl
if_some false f o = refl

-- the flight at the place is that of the scope
stands_flight : (flights : List Flight) (s : ScopeId) (i : ℕ) (f : Flight) → AllPairs (AreOfTwoScopes flight_scope) flights → StandsAt flight_scope flights s i → f ≡ slice_index_or flights i f → (f.scope ≡ s) × (by_scope flight_scope flights s ≡ Some f)
stands_flight flights s i f apart at read =
    let named : f.scope ≡ s = ap flight_scope read ∙ scopes_same (slice_index_or flights i f).scope s (at.is f) in
    (named, found_at flight_scope flights s i f apart at.inside (at.is f) ∙ ap Some (sym read))

pub has_readied : (p : PipeView) (s : ScopeId) (i : ℕ) (f : Flight) (waiting_cap ready_cap entered_cap : ℕ) → IsKept p waiting_cap ready_cap entered_cap → StandsAt flight_scope p.waiting s i → f ≡ slice_index_or p.waiting i f → is_ready p s ≡ false → HasReadied p (readied p i f) s
has_readied p s i f waiting_cap ready_cap entered_cap is at read waits =
    let stands = stands_flight p.waiting s i f is.waiting_apart at read in
    let none = none_ready p s waits in
    let gone = found_swapped flight_scope p.waiting s i f is.waiting_apart at.inside at.is in
    let come = found_pushed flight_scope p.ready f (ap (by_scope flight_scope p.ready) stands.0 ∙ none) in
    let inside = at.inside in
    record {
      serial = refl;
      count = let long = length_push p.ready f in let less = length-swap_removed p.waiting i f at.inside in omega arith;
      flight = λ t. ⊎_elim
          (λ (same : t ≡ s).
          let here : is_scope t f.scope ≡ true = subst (λ u. is_scope u f.scope ≡ true) (sym same) (subst (λ u. is_scope s u ≡ true) (sym stands.0) (same_scope s)) in
          let now : by_scope flight_scope (p.ready ++ f ∷ []) t ≡ Some f = come t ∙ rw here in
          let left : by_scope flight_scope (swap_remove p.waiting i f) t ≡ None = gone t ∙ ap (λ u. set_for (by_scope flight_scope p.waiting) s None u) same ∙ set_for-here (by_scope flight_scope p.waiting) s None in
          let was : by_scope flight_scope p.waiting t ≡ Some f = ap (by_scope flight_scope p.waiting) same ∙ stands.1 in
          ap₂ (λ o q. centre_of (either o q)) left now ∙ sym (ap (λ o. centre_of (either o (by_scope flight_scope p.ready t))) was))
          (λ (other : is_scope t s ≡ false).
          let apart : is_scope t f.scope ≡ false = subst (λ u. is_scope t u ≡ false) (sym stands.0) other in
          ap₂ (λ o q. centre_of (either o q)) (gone t ∙ set_for-there (by_scope flight_scope p.waiting) s t None other) (come t ∙ set_for-there (by_scope flight_scope p.ready) f.scope t (Some f) apart))
          (one_or_two t s);
      ready = λ t. ap is_some (come t) ∙ (if_some (is_scope t f.scope) f (by_scope flight_scope p.ready t) ∙ ap (λ u. if is_scope t u then true else is_ready p t) stands.0);
    }

pub ready_keeps : (p : PipeView) (s : ScopeId) (i : ℕ) (f : Flight) (waiting_cap ready_cap entered_cap : ℕ) → IsKept p waiting_cap ready_cap entered_cap → StandsAt flight_scope p.waiting s i → f ≡ slice_index_or p.waiting i f → is_ready p s ≡ false → IsKept (readied p i f) waiting_cap ready_cap entered_cap
ready_keeps p s i f waiting_cap ready_cap entered_cap is at read waits =
    let stands = stands_flight p.waiting s i f is.waiting_apart at read in
    let none : by_scope flight_scope p.ready f.scope ≡ None = ap (by_scope flight_scope p.ready) stands.0 ∙ none_ready p s waits in
    let gone = found_swapped flight_scope p.waiting s i f is.waiting_apart at.inside at.is in
    let come = found_pushed flight_scope p.ready f none in
    let inside = at.inside in
    record {
      waiting_apart = apart_swapped flight_scope p.waiting i f is.waiting_apart at.inside;
      ready_apart = apart_pushed flight_scope p.ready f is.ready_apart none;
      across = λ t some. ⊎_elim
          (λ (same : t ≡ s). gone t ∙ ap (λ u. set_for (by_scope flight_scope p.waiting) s None u) same ∙ set_for-here (by_scope flight_scope p.waiting) s None)
          (λ (other : is_scope t s ≡ false).
          let apart : is_scope t f.scope ≡ false = subst (λ u. is_scope t u ≡ false) (sym stands.0) other in
          let was : is_some (by_scope flight_scope p.ready t) ≡ true = sym (ap is_some (come t ∙ set_for-there (by_scope flight_scope p.ready) f.scope t (Some f) apart)) ∙ some in
          gone t ∙ (set_for-there (by_scope flight_scope p.waiting) s t None other ∙ is.across t was))
          (one_or_two t s);
      waiting_given = all_swapped (λ (g : Flight). g.scope.serial < p.serial) p.waiting i f at.inside is.waiting_given;
      ready_given = All-push (λ (g : Flight). g.scope.serial < p.serial) p.ready f is.ready_given (subst (λ (g : Flight). g.scope.serial < p.serial) (sym read) (is.waiting_given i f at.inside));
      few = let long = length_push p.ready f in let less = length-swap_removed p.waiting i f at.inside in let few = is.few in omega arith;
      waiting_room = is.waiting_room;
      ready_room = is.ready_room;
      entered_apart = is.entered_apart;
      in_part = is.in_part;
      entered_room = is.entered_room;
    }

-- ---- one of them is finished

abbrev pub finished_waiting : PipeView → ℕ → Flight → PipeView
finished_waiting p i f = record p { waiting = swap_remove p.waiting i f }

abbrev pub finished_ready : PipeView → ℕ → Flight → PipeView
finished_ready p i f = record p { ready = swap_remove p.ready i f }

-- one that waits isn't ready
waits_not_ready : (p : PipeView) (s : ScopeId) (f : Flight) → ((t : ScopeId) → is_some (by_scope flight_scope p.ready t) ≡ true → by_scope flight_scope p.waiting t ≡ None) → by_scope flight_scope p.waiting s ≡ Some f → by_scope flight_scope p.ready s ≡ None
waits_not_ready p s f across is = ⊎_elim
    (λ (has_it : is_some (by_scope flight_scope p.ready s) ≡ true). absurd (none-some f (sym (across s has_it) ∙ is)))
    (λ (none : is_some (by_scope flight_scope p.ready s) ≡ false). none_of (by_scope flight_scope p.ready s) none)
    (cases_Bool (is_some (by_scope flight_scope p.ready s)))

pub has_finished_waiting : (p : PipeView) (s : ScopeId) (i : ℕ) (f : Flight) (waiting_cap ready_cap entered_cap : ℕ) → IsKept p waiting_cap ready_cap entered_cap → StandsAt flight_scope p.waiting s i → HasFinished p (finished_waiting p i f) s
has_finished_waiting p s i f waiting_cap ready_cap entered_cap is at =
    let here = found_at flight_scope p.waiting s i f is.waiting_apart at.inside (at.is f) in
    let none = waits_not_ready p s (slice_index_or p.waiting i f) is.across here in
    let gone = found_swapped flight_scope p.waiting s i f is.waiting_apart at.inside at.is in
    let inside = at.inside in
    record {
      serial = refl;
      count = let less = length-swap_removed p.waiting i f at.inside in omega arith;
      flight = λ t. ⊎_elim
          (λ (same : t ≡ s).
          subst (λ u. flight_at (finished_waiting p i f) u ≡ set_for (flight_at p) s None u) (sym same)
          (ap₂ (λ o q. centre_of (either o q)) (gone s ∙ set_for-here (by_scope flight_scope p.waiting) s None) none ∙ sym (set_for-here (flight_at p) s None)))
          (λ (other : is_scope t s ≡ false).
          ap (λ o. centre_of (either o (by_scope flight_scope p.ready t))) (gone t ∙ set_for-there (by_scope flight_scope p.waiting) s t None other) ∙ sym (set_for-there (flight_at p) s t None other))
          (one_or_two t s);
      ready = λ t. ⊎_elim
          (λ (same : t ≡ s). subst (λ u. is_ready p u ≡ set_for (is_ready p) s false u) (sym same) (ap is_some none ∙ sym (set_for-here (is_ready p) s false)))
          (λ (other : is_scope t s ≡ false). sym (set_for-there (is_ready p) s t false other))
          (one_or_two t s);
    }

pub has_finished_ready : (p : PipeView) (s : ScopeId) (i : ℕ) (f : Flight) (waiting_cap ready_cap entered_cap : ℕ) → IsKept p waiting_cap ready_cap entered_cap → StandsAt flight_scope p.ready s i → by_scope flight_scope p.waiting s ≡ None → HasFinished p (finished_ready p i f) s
has_finished_ready p s i f waiting_cap ready_cap entered_cap is at none =
    let gone = found_swapped flight_scope p.ready s i f is.ready_apart at.inside at.is in
    let inside = at.inside in
    record {
      serial = refl;
      count = let less = length-swap_removed p.ready i f at.inside in omega arith;
      flight = λ t. ⊎_elim
          (λ (same : t ≡ s).
          subst (λ u. flight_at (finished_ready p i f) u ≡ set_for (flight_at p) s None u) (sym same)
          (ap₂ (λ o q. centre_of (either o q)) none (gone s ∙ set_for-here (by_scope flight_scope p.ready) s None) ∙ sym (set_for-here (flight_at p) s None)))
          (λ (other : is_scope t s ≡ false).
          ap (λ q. centre_of (either (by_scope flight_scope p.waiting t) q)) (gone t ∙ set_for-there (by_scope flight_scope p.ready) s t None other) ∙ sym (set_for-there (flight_at p) s t None other))
          (one_or_two t s);
      ready = λ t. ⊎_elim
          (λ (same : t ≡ s). subst (λ u. is_ready (finished_ready p i f) u ≡ set_for (is_ready p) s false u) (sym same) (ap is_some (gone s ∙ set_for-here (by_scope flight_scope p.ready) s None) ∙ sym (set_for-here (is_ready p) s false)))
          (λ (other : is_scope t s ≡ false). ap is_some (gone t ∙ set_for-there (by_scope flight_scope p.ready) s t None other) ∙ sym (set_for-there (is_ready p) s t false other))
          (one_or_two t s);
    }

pub finish_waiting_keeps : (p : PipeView) (s : ScopeId) (i : ℕ) (f : Flight) (waiting_cap ready_cap entered_cap : ℕ) → IsKept p waiting_cap ready_cap entered_cap → StandsAt flight_scope p.waiting s i → IsKept (finished_waiting p i f) waiting_cap ready_cap entered_cap
finish_waiting_keeps p s i f waiting_cap ready_cap entered_cap is at =
    let gone = found_swapped flight_scope p.waiting s i f is.waiting_apart at.inside at.is in
    record {
      waiting_apart = apart_swapped flight_scope p.waiting i f is.waiting_apart at.inside;
      ready_apart = is.ready_apart;
      across = λ t some. ⊎_elim
          (λ (same : t ≡ s). gone t ∙ ap (λ u. set_for (by_scope flight_scope p.waiting) s None u) same ∙ set_for-here (by_scope flight_scope p.waiting) s None)
          (λ (other : is_scope t s ≡ false). gone t ∙ (set_for-there (by_scope flight_scope p.waiting) s t None other ∙ is.across t some))
          (one_or_two t s);
      waiting_given = all_swapped (λ (g : Flight). g.scope.serial < p.serial) p.waiting i f at.inside is.waiting_given;
      ready_given = is.ready_given;
      few = let inside = at.inside in let less = length-swap_removed p.waiting i f at.inside in let few = is.few in omega arith;
      waiting_room = is.waiting_room;
      ready_room = is.ready_room;
      entered_apart = is.entered_apart;
      in_part = is.in_part;
      entered_room = is.entered_room;
    }

pub finish_ready_keeps : (p : PipeView) (s : ScopeId) (i : ℕ) (f : Flight) (waiting_cap ready_cap entered_cap : ℕ) → IsKept p waiting_cap ready_cap entered_cap → StandsAt flight_scope p.ready s i → IsKept (finished_ready p i f) waiting_cap ready_cap entered_cap
finish_ready_keeps p s i f waiting_cap ready_cap entered_cap is at =
    let gone = found_swapped flight_scope p.ready s i f is.ready_apart at.inside at.is in
    record {
      waiting_apart = is.waiting_apart;
      ready_apart = apart_swapped flight_scope p.ready i f is.ready_apart at.inside;
      across = λ t some. ⊎_elim
          (λ (same : t ≡ s). absurd (true≢false (sym some ∙ ap is_some (ap (by_scope flight_scope (swap_remove p.ready i f)) same ∙ (gone s ∙ set_for-here (by_scope flight_scope p.ready) s None)))))
          (λ (other : is_scope t s ≡ false). is.across t (sym (ap is_some (gone t ∙ set_for-there (by_scope flight_scope p.ready) s t None other)) ∙ some))
          (one_or_two t s);
      waiting_given = is.waiting_given;
      ready_given = all_swapped (λ (g : Flight). g.scope.serial < p.serial) p.ready i f at.inside is.ready_given;
      few = let inside = at.inside in let less = length-swap_removed p.ready i f at.inside in let few = is.few in omega arith;
      waiting_room = is.waiting_room;
      ready_room = is.ready_room;
      entered_apart = is.entered_apart;
      in_part = is.in_part;
      entered_room = is.entered_room;
    }

-- ---- the lists when one is finished

-- the scope's flight is the first that is found
place_first : (s : ScopeId) (flights : List Flight) (i : ℕ) (f : Flight) → AllPairs (AreOfTwoScopes flight_scope) flights → StandsAt flight_scope flights s i → position (λ (g : Flight). is_scope g.scope s) flights ≡ Some i
place_first s flights i f apart at =
    let test : Flight → Bool = λ g. is_scope g.scope s in
    let first = position_or_len test flights in
    let inside = at.inside in
    ⊎_elim
    (λ (before : i < first). absurd (true≢false (sym (at.is f) ∙ fails_before_first test flights i f before)))
    (λ (after : first ≤ i).
    let low : first < length flights = omega arith in
    let some : position test flights ≡ Some first = rw (lt-ltb first (length flights) low) in
    let is = position-Some test flights first f some in
    some ∙ ap Some (⊎_elim
    (λ (same : first ≡ i). same)
    (λ (other : first ≢ i).
    let differs = apart_places flight_scope flights first i f apart low at.inside other in
    absurd (true≢false (sym is.1 ∙ subst (λ t. is_scope (slice_index_or flights first f).scope t ≡ false) (scopes_same (slice_index_or flights i f).scope s (at.is f)) differs)))
    (cases_eq first i)))
    (cases_lt i first)

none_placed-at : (s : ScopeId) (flights : List Flight) (f : Flight) (o : Option ℕ) → by_scope flight_scope flights s ≡ None → position (λ (g : Flight). is_scope g.scope s) flights ≡ o → o ≡ None
none_placed-at s flights f None none is = refl
none_placed-at s flights f (Some k) none is =
    let at = position-Some (λ (g : Flight). is_scope g.scope s) flights k f is in
    absurd (true≢false (sym at.1 ∙ found_none flight_scope flights s none k f at.0))

stays_whole : (s : ScopeId) (flights : List Flight) (f : Flight) → by_scope flight_scope flights s ≡ None → without_flight s flights ≡ flights
stays_whole s flights f none = ap (taken_from flights) (none_placed-at s flights f (position (λ (g : Flight). is_scope g.scope s) flights) none refl)

goes_out : (s : ScopeId) (flights : List Flight) (i : ℕ) (f : Flight) → AllPairs (AreOfTwoScopes flight_scope) flights → StandsAt flight_scope flights s i → without_flight s flights ≡ swap_remove flights i f
goes_out s flights i f apart at =
    let inside = at.inside in
    ap (taken_from flights) (place_first s flights i f apart at)
    ∙ ap (λ (g : Flight). take (length flights - 1) (slice_set flights i g)) (get_or_default flights (length flights - 1) _ f (omega arith))

pub lists_waiting : (p : PipeView) (s : ScopeId) (i : ℕ) (f : Flight) (waiting_cap ready_cap entered_cap : ℕ) → IsKept p waiting_cap ready_cap entered_cap → StandsAt flight_scope p.waiting s i
    → finished_waiting p i f ≡ record p { waiting = without_flight s p.waiting; ready = without_flight s p.ready }
lists_waiting p s i f waiting_cap ready_cap entered_cap is at =
    let here = found_at flight_scope p.waiting s i f is.waiting_apart at.inside (at.is f) in
    let none = waits_not_ready p s (slice_index_or p.waiting i f) is.across here in
    let waiting = sym (goes_out s p.waiting i f is.waiting_apart at) in
    let ready = sym (stays_whole s p.ready f none) in
    λ j. record p { waiting = waiting j; ready = ready j }

pub lists_ready : (p : PipeView) (s : ScopeId) (i : ℕ) (f : Flight) (waiting_cap ready_cap entered_cap : ℕ) → IsKept p waiting_cap ready_cap entered_cap → StandsAt flight_scope p.ready s i → by_scope flight_scope p.waiting s ≡ None
    → finished_ready p i f ≡ record p { waiting = without_flight s p.waiting; ready = without_flight s p.ready }
lists_ready p s i f waiting_cap ready_cap entered_cap is at none =
    let ready = sym (goes_out s p.ready i f is.ready_apart at) in
    let waiting = sym (stays_whole s p.waiting f none) in
    λ j. record p { waiting = waiting j; ready = ready j }

-- ---- whether a scope is in flight

some_of : (here there : Option Flight) → is_some (centre_of (either here there)) ≡ (is_some here || is_some there)
some_of None None = refl
some_of None (Some f) = refl
some_of (Some f) there = refl

pub in_flight_where : (p : PipeView) (s : ScopeId) → is_some (flight_at p s) ≡ (is_some (by_scope flight_scope p.waiting s) || is_ready p s)
in_flight_where p s = some_of (by_scope flight_scope p.waiting s) (by_scope flight_scope p.ready s)
