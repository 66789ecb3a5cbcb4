-- The own vertices of a scope, as a machine has them and as the cluster has them.
use Rattle.std.proofs.Common.{◌≡◌, ℕ, zero, suc, ◌+◌, ◌-◌, ◌<◌, ◌==◌, ◌&&◌, Bool, true, false, Option, None, Some, is_some, List, [], slice_get, nat_lt, refl, sym, ap, ◌∙◌, ⊎_elim, arith}
use Rattle.std.proofs.lemmas.Bool.{cases_Bool, and_parts, ltb-true}
use Rattle.std.proofs.lemmas.Option.{slice_get-map}
use Rattle.gl_base.specs.declared.numbers.Vertex.{Vertex}
use Rattle.cluster_laws.specs.cluster_core.Ranges.{first_passing, all_passing}
use Rattle.cluster_laws.specs.cluster_core.Scopes.{own_from}
use Rattle.cluster_laws.specs.cluster_core.Settings.{Setting, is_in_scope}
use Rattle.graph_core.specs.DataGraph.{size}
use Rattle.local_graph.specs.Locals.{LocalView, at_place, is_placed, part_at, place_at}
use Rattle.partition.specs.local_parts.Parts.{IsLocalOf, own_in_scope}
use Rattle.machine_core.specs.machine_parts.Parts.{number_of}

-- ---- ranges

pub first_at : (test : ℕ → Bool) (k many : ℕ) → first_passing test k many ≡ slice_get (all_passing test k many) 0
unfolding first_passing all_passing
first_at test k zero = refl
first_at test k (suc many) = ⊎_elim
    (λ (yes : test k ≡ true). rw yes)
    (λ (passed : test k ≡ false). rw passed (first_at test (suc k) many))
    (cases_Bool (test k))

none_there : (x : ℕ) → None ≡ Some x → ⊥
none_there x is = cc

-- behind the number at a place comes the next one that passes
pub next_at : (test : ℕ → Bool) (k many i x : ℕ) → slice_get (all_passing test k many) i ≡ Some x → first_passing test (suc x) (k + many - suc x) ≡ slice_get (all_passing test k many) (suc i)
unfolding all_passing
next_at test k zero i x is = absurd (none_there x is)
next_at test k (suc many) zero x is = ⊎_elim
    (λ (yes : test k ≡ true).
    let first : Some k ≡ Some x = rw yes at is in
    let at : k ≡ x = cc in
    let left : k + suc many - suc x ≡ many = omega arith in
    rw (yes, left, ← at) (first_at test (suc k) many))
    (λ (passed : test k ≡ false).
    let later : slice_get (all_passing test (suc k) many) 0 ≡ Some x = rw passed at is in
    let left : k + suc many - suc x ≡ suc k + many - suc x = omega arith in
    rw (passed, left) (next_at test (suc k) many 0 x later))
    (cases_Bool (test k))
next_at test k (suc many) (suc i) x is = ⊎_elim
    (λ (yes : test k ≡ true).
    let later : slice_get (all_passing test (suc k) many) i ≡ Some x = rw yes at is in
    let left : k + suc many - suc x ≡ suc k + many - suc x = omega arith in
    rw (yes, left) (next_at test (suc k) many i x later))
    (λ (passed : test k ≡ false).
    let later : slice_get (all_passing test (suc k) many) (suc i) ≡ Some x = rw passed at is in
    let left : k + suc many - suc x ≡ suc k + many - suc x = omega arith in
    rw (passed, left) (next_at test (suc k) many (suc i) x later))
    (cases_Bool (test k))

-- ---- own vertices

some_placed : (parts : List (List Vertex)) (o : Option ℕ) (i : ℕ) (x : Vertex) → slice_get (at_place parts o []) i ≡ Some x → is_some o ≡ true
some_placed parts None i x is = absurd (none_is x is)
  where
    none_is : (x : Vertex) → None ≡ Some x → ⊥
    none_is x is = cc
some_placed parts (Some k) i x is = refl

-- a vertex that has own vertices in its scope here is an own one or a ghost
pub placed_of_part : (l : LocalView) (v i : ℕ) (x : Vertex) → slice_get (part_at l v) i ≡ Some x → is_placed l v ≡ true
placed_of_part l v i x is = some_placed l.part (place_at l v) i x is

pub low_of_placed : (st : Setting) (l : LocalView) (v : ℕ) → IsLocalOf st l → is_placed l v ≡ true → v < size st.graph
low_of_placed st l v is placed =
    let both : (nat_lt v (size st.graph) && _) ≡ true = sym (is.known v) ∙ placed in
    ltb-true v (size st.graph) (and_parts (nat_lt v (size st.graph)) _ both).0

-- the own vertex behind one in a scope is the next one in the cluster's order of locks
pub next_own : (st : Setting) (l : LocalView) (v i : ℕ) (x : Vertex) → IsLocalOf st l → slice_get (part_at l v) i ≡ Some x
    → own_from st v l.me.0 (suc x.0) ≡ number_of (slice_get (part_at l v) (suc i))
next_own st l v i x is at =
    let test : ℕ → Bool = λ y. is_in_scope st v y && st.owner y == l.me.0 in
    let low = low_of_placed st l v is (placed_of_part l v i x at) in
    let number : slice_get (own_in_scope st v l.me.0) i ≡ Some x.0 = ap (λ (ns : List ℕ). slice_get ns i) (sym (is.part v low)) ∙ slice_get-map (λ (y : Vertex). y.0) (part_at l v) i ∙ ap number_of at in
    let left : size st.graph - suc x.0 ≡ 0 + size st.graph - suc x.0 = omega arith in
    ap (first_passing test (suc x.0)) left
    ∙ next_at test 0 (size st.graph) i x.0 number
    ∙ ap (λ (ns : List ℕ). slice_get ns (suc i)) (sym (is.part v low)) ∙ slice_get-map (λ (y : Vertex). y.0) (part_at l v) (suc i)

-- the first own vertex in a scope is the first in that order
pub first_own : (st : Setting) (l : LocalView) (v : ℕ) → IsLocalOf st l → is_placed l v ≡ true → own_from st v l.me.0 0 ≡ number_of (slice_get (part_at l v) 0)
first_own st l v is placed =
    let test : ℕ → Bool = λ y. is_in_scope st v y && st.owner y == l.me.0 in
    let low = low_of_placed st l v is placed in
    let all : size st.graph - 0 ≡ size st.graph = omega arith in
    ap (first_passing test 0) all ∙ first_at test 0 (size st.graph) ∙ ap (λ (ns : List ℕ). slice_get ns 0) (sym (is.part v low)) ∙ slice_get-map (λ (y : Vertex). y.0) (part_at l v) 0
