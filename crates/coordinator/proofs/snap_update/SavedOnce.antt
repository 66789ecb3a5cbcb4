-- No vertex and no edge is saved twice, where each is saved only while it has no number.
use Rattle.std.proofs.Common.{◌≡◌, ℕ, ◌==◌, Bool, true, false, nat_eq, Option, None, Some, List, [], ◌∷◌, ◌++◌, map, if◌then◌else◌, refl, sym, subst, arith}
use Rattle.std.proofs.lemmas.List.{map-append}
use Rattle.std.specs.List.{AllByRecursion, IsDistinct}
use Rattle.gl_base.specs.declared.numbers.EdgeNo.{EdgeNo}
use Rattle.gl_base.specs.declared.numbers.Vertex.{Vertex}
use Rattle.graph_core.proofs.HalvesLaws.{each-append}
use Rattle.coordinator.specs.snap_update.Snaps.{IsSavedOnce, SnapRoom, SnapView, newly_begun, nothing_since, with_begun, with_edge, with_vertex}
use Rattle.coordinator.specs.snap_update.Holding.{last_of_edge, last_of_vertex, later_number}

distinct_last : (xs : List ℕ) (x : ℕ) → IsDistinct nat_eq xs → AllByRecursion (λ y. nat_eq y x ≡ false) xs → IsDistinct nat_eq (xs ++ x ∷ [])
unfolding IsDistinct
distinct_last [] x apart others = (tt, tt)
distinct_last (y ∷ ys) x apart others = (each-append (λ z. nat_eq y z ≡ false) ys (x ∷ []) apart.0 (others.0, tt), distinct_last ys x apart.1 others.1)

none_distinct : IsDistinct nat_eq []
unfolding IsDistinct
none_distinct = tt

neither : (a b : Option ℕ) → later_number a b ≡ None → (a ≡ None) × (b ≡ None)
neither None b none = (refl, none)
neither (Some number) b none = absurd (cc)

test_fails : (test : Bool) (number : ℕ) → (if test then Some number else None) ≡ None → test ≡ false
test_fails true number none = absurd (cc)
test_fails false number none = refl

turned : (x y : ℕ) → (x == y) ≡ false → nat_eq y x ≡ false
turned x y apart = grind arith

vertex_is_new : (pairs : List (Vertex × ℕ)) (v : ℕ) → last_of_vertex pairs v ≡ None → AllByRecursion (λ y. nat_eq y v ≡ false) (map (λ (pair : Vertex × ℕ). pair.0.0) pairs)
vertex_is_new [] v none = tt
vertex_is_new (pair ∷ pairs) v none =
    let both = neither (last_of_vertex pairs v) (if v == pair.0.0 then Some pair.1 else None) none in
    (turned v pair.0.0 (test_fails (v == pair.0.0) pair.1 both.1), vertex_is_new pairs v both.0)

edge_is_new : (pairs : List (EdgeNo × ℕ)) (e : ℕ) → last_of_edge pairs e ≡ None → AllByRecursion (λ y. nat_eq y e ≡ false) (map (λ (pair : EdgeNo × ℕ). pair.0.0) pairs)
edge_is_new [] e none = tt
edge_is_new (pair ∷ pairs) e none =
    let both = neither (last_of_edge pairs e) (if e == pair.0.0 then Some pair.1 else None) none in
    (turned e pair.0.0 (test_fails (e == pair.0.0) pair.1 both.1), edge_is_new pairs e both.0)

pub vertex_once : (v : Vertex) (value : ℕ) (w : SnapView) → IsSavedOnce w → last_of_vertex w.vertices v.0 ≡ None → IsSavedOnce (with_vertex v value w)
vertex_once v value w once none =
    let name : Vertex × ℕ → ℕ = λ (pair : Vertex × ℕ). pair.0.0 in
    record {
      vertices = subst (λ xs. IsDistinct nat_eq xs) (sym (map-append name w.vertices ((v, value) ∷ [])))
          (distinct_last (map name w.vertices) v.0 once.vertices (vertex_is_new w.vertices v.0 none));
      edges = once.edges;
    }

pub edge_once : (e : EdgeNo) (number : ℕ) (w : SnapView) → IsSavedOnce w → last_of_edge w.edges e.0 ≡ None → IsSavedOnce (with_edge e number w)
edge_once e number w once none =
    let name : EdgeNo × ℕ → ℕ = λ (pair : EdgeNo × ℕ). pair.0.0 in
    record {
      vertices = once.vertices;
      edges = subst (λ xs. IsDistinct nat_eq xs) (sym (map-append name w.edges ((e, number) ∷ [])))
          (distinct_last (map name w.edges) e.0 once.edges (edge_is_new w.edges e.0 none));
    }

begun_by : (test : Bool) (k : ℕ) (w : SnapView) → IsSavedOnce w → IsSavedOnce (if test then newly_begun k w else w)
begun_by true k w once = record { vertices = none_distinct; edges = none_distinct }
begun_by false k w once = once

pub begun_once : (k : ℕ) (w : SnapView) → IsSavedOnce w → IsSavedOnce (with_begun k w)
begun_once k w once = begun_by _ k w once

pub nothing_once : (k : ℕ) (room : SnapRoom) → IsSavedOnce (nothing_since k room)
nothing_once k room = record { vertices = none_distinct; edges = none_distinct }
