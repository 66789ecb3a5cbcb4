-- Values by scope after one is put in or taken out.
use Rattle.std.proofs.Common.{◌≡◌, ◌≢◌, ℕ, ◌<◌, true, false, Option, None, Some, IfSome, is_some, List, [], ◌∷◌, ◌++◌, length, slice_index_or, refl, sym, ◌∙◌, ap, ⊎_elim, arith}
use Rattle.std.specs.List.{swap_remove}
use Rattle.std.specs.Option.{option_map}
use Rattle.std.proofs.lemmas.Bool.{cases_Bool, true≢false}
use Rattle.std.proofs.lemmas.List.{get_or_default}
use Rattle.gl_base.specs.declared.numbers.Vertex.{Vertex}
use Rattle.gl_base.specs.declared.scopes.ScopeId.{ScopeId}
use Rattle.gl_base.specs.scope_lists.Found.{StandsAt, by_scope}
use Rattle.gl_base.specs.scope_lists.Scopes.{is_scope, set_for}
use Rattle.gl_base.proofs.scope_lists.Edited.{apart_swapped, found_swapped}
use Rattle.gl_base.proofs.scope_lists.FoundLemmas.{apart_pushed, found_at, found_place, found_pushed}
use Rattle.gl_base.proofs.scope_lists.SameScope.{one_or_two, same_scope, set_for-here, set_for-there}
use Rattle.full_cluster.specs.ScopeMaps.{AreOnce, HasVertexAt, entry_scope, value_of}

pub map_none : {A B : Type 0} (f : A → B) (o : Option A) → option_map f o ≡ None → o ≡ None
map_none f None is = refl
map_none f (Some x) is = cc

through : {A B : Type 0} (f : A → B) (found : ScopeId → Option A) (s : ScopeId) (o : Option A) (t : ScopeId) → option_map f (set_for found s o t) ≡ set_for (λ u. option_map f (found u)) s (option_map f o) t
through f found s o t = ⊎_elim
    (λ (yes : is_scope t s ≡ true). rw yes refl)
    (λ (no : is_scope t s ≡ false). rw no refl)
    (cases_Bool (is_scope t s))

pub put_value : {T : Type 0} (entries : List (ScopeId × T)) (s : ScopeId) (x : T) → value_of entries s ≡ None → (t : ScopeId) → value_of (entries ++ (s, x) ∷ []) t ≡ set_for (value_of entries) s (Some x) t
put_value {T} entries s x none t =
    ap (option_map (λ (e : ScopeId × T). e.1)) (found_pushed (entry_scope {T = T}) entries (s, x) (map_none (λ (e : ScopeId × T). e.1) (by_scope (entry_scope {T = T}) entries s) none) t)
    ∙ through (λ (e : ScopeId × T). e.1) (by_scope (entry_scope {T = T}) entries) s (Some (s, x)) t

pub put_once : {T : Type 0} (entries : List (ScopeId × T)) (s : ScopeId) (x : T) → value_of entries s ≡ None → AreOnce entries → AreOnce (entries ++ (s, x) ∷ [])
put_once {T} entries s x none once = apart_pushed (entry_scope {T = T}) entries (s, x) once (map_none (λ (e : ScopeId × T). e.1) (by_scope (entry_scope {T = T}) entries s) none)

pub nothing_of : {T : Type 0} (entries : List (ScopeId × T)) (s : ScopeId) → by_scope (entry_scope {T = T}) entries s ≡ None → value_of entries s ≡ None
nothing_of {T} entries s none = ap (option_map (λ (e : ScopeId × T). e.1)) none

pub value_at : {T : Type 0} (entries : List (ScopeId × T)) (s : ScopeId) (i : ℕ) (e : ScopeId × T) → AreOnce entries → StandsAt (entry_scope {T = T}) entries s i → e ≡ slice_index_or entries i e → value_of entries s ≡ Some e.1
value_at {T} entries s i e once at is =
    ap (option_map (λ (x : ScopeId × T). x.1)) (found_at (entry_scope {T = T}) entries s i e once at.inside (at.is e) ∙ ap Some (sym is))

pub taken_values : {T : Type 0} (entries : List (ScopeId × T)) (s : ScopeId) (i : ℕ) (e : ScopeId × T) → AreOnce entries → StandsAt (entry_scope {T = T}) entries s i → (t : ScopeId) → value_of (swap_remove entries i e) t ≡ set_for (value_of entries) s None t
taken_values {T} entries s i e once at t =
    ap (option_map (λ (x : ScopeId × T). x.1)) (found_swapped (entry_scope {T = T}) entries s i e once at.inside at.is t)
    ∙ through (λ (x : ScopeId × T). x.1) (by_scope (entry_scope {T = T}) entries) s None t

pub taken_once : {T : Type 0} (entries : List (ScopeId × T)) (s : ScopeId) (i : ℕ) (e : ScopeId × T) → AreOnce entries → StandsAt (entry_scope {T = T}) entries s i → AreOnce (swap_remove entries i e)
taken_once {T} entries s i e once at = apart_swapped (entry_scope {T = T}) entries i e once at.inside

-- nothing changes where the scope has no value
pub none_taken : {T : Type 0} (entries : List (ScopeId × T)) (s : ScopeId) → value_of entries s ≡ None → (t : ScopeId) → value_of entries t ≡ set_for (value_of entries) s None t
none_taken entries s none t = ⊎_elim
    (λ (is : t ≡ s). ap (value_of entries) is ∙ none ∙ sym (set_for-here (value_of entries) s None) ∙ ap (set_for (value_of entries) s None) (sym is))
    (λ (other : is_scope t s ≡ false). sym (set_for-there (value_of entries) s t None other))
    (one_or_two t s)

-- ---- the scopes of a vertex

none_some : {B : Type 0} (y : B) → None ≡ Some y → ⊥
none_some y is = cc

some_map : {A B : Type 0} (f : A → B) (o : Option A) (y : B) → option_map f o ≡ Some y → (x : A) × (o ≡ Some x) × (f x ≡ y)
some_map f None y is = absurd (none_some y is)
some_map f (Some x) y is = (x, refl, cc)

vertex_same : (u v : Vertex) → u.0 ≡ v.0 → u ≡ v
vertex_same u v is = λ k. record { 0 = is k }

vertex_at : (entries : List (ScopeId × Vertex)) (v : Vertex) (i : ℕ) → AreOnce entries → HasVertexAt entries v i → (s : ScopeId) × (value_of entries s ≡ Some v)
vertex_at [] v i once at = let inside = at.inside in absurd (omega (arith, inside))
vertex_at (x ∷ entries) v i once at =
    let e : ScopeId × Vertex = slice_index_or (x ∷ entries) i x in
    let same : (d : ScopeId × Vertex) → slice_index_or (x ∷ entries) i d ≡ e = λ d. get_or_default (x ∷ entries) i d x at.inside in
    let there : StandsAt (entry_scope {T = Vertex}) (x ∷ entries) e.0 i = record { inside = at.inside; is = λ d. ap (λ (y : ScopeId × Vertex). is_scope y.0 e.0) (same d) ∙ same_scope e.0 } in
    (e.0, value_at (x ∷ entries) e.0 i e once there (sym (same e)) ∙ ap Some (vertex_same e.1 v (at.is x)))

-- an entry has the vertex, so a scope has it
pub found_vertex : (entries : List (ScopeId × Vertex)) (v : Vertex) (o : Option ℕ) → AreOnce entries → IfSome o (HasVertexAt entries v) → is_some o ≡ true → (s : ScopeId) × (value_of entries s ≡ Some v)
found_vertex entries v None once there is = absurd (true≢false (sym is))
found_vertex entries v (Some i) once there is = vertex_at entries v i once there

-- no entry has the vertex, so no scope has it
pub missed_vertex : (entries : List (ScopeId × Vertex)) (v : Vertex) (o : Option ℕ) → (o ≡ None → (k : ℕ) (d : ScopeId × Vertex) → k < length entries → (slice_index_or entries k d).1.0 ≢ v.0) → is_some o ≡ false →
    (s : ScopeId) → value_of entries s ≡ Some v → ⊥
missed_vertex entries v (Some i) none is s at = true≢false is
missed_vertex entries v None none is s at =
    let found = some_map (λ (e : ScopeId × Vertex). e.1) (by_scope (entry_scope {T = Vertex}) entries s) v at in
    let place = found_place (entry_scope {T = Vertex}) entries s found.0 found.1 in
    none refl place.0 found.0 place.1 (ap (λ (e : ScopeId × Vertex). e.1.0) place.2 ∙ ap (λ (u : Vertex). u.0) found.2)
