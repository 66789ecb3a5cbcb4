-- Identifiers in order, their first double, and what a graph keeps of its lists.
use Rattle.std.proofs.Common.{◌≡◌, ℕ, ◌<◌, Bool, true, false, List, [], ◌∷◌, ◌++◌, length, map, take, get_or, slice_get, Option, Some, None, Err, eqb, nat_eq, refl, sym, ap, ◌∙◌, subst, All, arith}
use Rattle.std.specs.List.{IsDistinct, list_any}
use Rattle.std.specs.List.Sorted.{IsPermutation}
use Rattle.std.proofs.lemmas.Cmp.{nat_eq_equiv}
use Rattle.std.proofs.lemmas.List.{map-id, take-take, get_or-take, length-take-le, get_or_default, length-map, get_or-map}
use Rattle.std.proofs.lemmas.List.Sorted.{list_any-IsPermutation}
use Rattle.std.proofs.lemmas.Map.Views.{list_any-from_Contains}
use Rattle.std.proofs.lemmas.Option.{slice_get-get_or}
use Rattle.graph_core.specs.declared.graph_lists.EdgeIn.{EdgeIn}
use Rattle.graph_core.specs.declared.graph_lists.GraphFault.{GraphFault}
use Rattle.graph_core.specs.declared.graph_lists.GraphFault.TheVariants.{DoubleVertex}
use Rattle.gl_base.specs.declared.memory.OrNoMemory.{OrNoMemory}
use Rattle.gl_base.specs.declared.memory.OrNoMemory.TheVariants.{Fault, NoMemory}
use Rattle.graph_core.specs.declared.sorting.DoubleAt.{DoubleAt}
use Rattle.graph_core.specs.GraphLists.{first_fault, vertex_fault, ends_fault, edge_fault, graph_fault, NamesFirstFault}
use Rattle.graph_core.specs.Inner.NumberedEdges.{vertex_double}
use Rattle.graph_core.specs.Inner.SortedKeys.{IsFirstDouble, AreSorted}
use Rattle.graph_core.proofs.EdgeLemmas.{first_fault_at, first_fault_none, distinct_before, eqb_flips}

any_flip : (x : ℕ) (xs : List ℕ) → list_any (λ o. eqb o x) xs ≡ list_any (eqb x) xs
any_flip x [] = refl
any_flip x (y ∷ ys) = rw (eqb_flips y x, any_flip x ys) refl

vertex_none : (ids : List ℕ) (j d : ℕ) → j < length ids → list_any (eqb (get_or ids j 0)) (take j ids) ≡ false → vertex_fault (take j ids) (get_or ids j d) ≡ None
vertex_none ids j d inside new = rw (get_or_default ids j d 0 inside, any_flip (get_or ids j 0) (take j ids), new) refl

vertex_again : (ids : List ℕ) (j d : ℕ) → j < length ids → list_any (eqb (get_or ids j 0)) (take j ids) ≡ true → vertex_fault (take j ids) (get_or ids j d) ≡ Some (DoubleVertex j)
vertex_again ids j d inside again =
    rw (get_or_default ids j d 0 inside, any_flip (get_or ids j 0) (take j ids), again, length-take-le j ids (omega arith)) refl

pub no_double_vertex : (ids : List ℕ) → IsDistinct nat_eq ids → first_fault vertex_fault [] ids ≡ None
no_double_vertex ids apart = first_fault_none vertex_fault [] ids (λ j d l. vertex_none ids j d l (distinct_before ids j apart l))

first_double_vertex : (ids : List ℕ) (i : ℕ) → IsFirstDouble ids i → first_fault vertex_fault [] ids ≡ Some (DoubleVertex i)
first_double_vertex ids i double =
    first_fault_at vertex_fault [] ids i (DoubleVertex i) double.inside
    (λ j d l.
    let inside = double.inside in
    let len = length-take-le i ids (omega arith) in
    let h = distinct_before (take i ids) j double.first (omega arith) in
    let new : list_any (eqb (get_or ids j 0)) (take j ids) ≡ false = rw (get_or-take i ids j 0 l, take-take j i ids (omega arith)) at h in
    vertex_none ids j d (omega arith) new)
    (λ d. vertex_again ids i d double.inside (list_any-from_Contains nat_eq_equiv (get_or ids i 0) (take i ids) double.double))

pub refuses_vertex : (ids : List ℕ) (unsorted : OrNoMemory DoubleAt) → AreSorted (λ (id : ℕ). id) ids (Err unsorted) → NamesFirstFault (first_fault vertex_fault [] ids) (vertex_double unsorted)
refuses_vertex ids (Fault at) double = first_double_vertex ids at.0 (subst (λ ks. IsFirstDouble ks at.0) (map-id ids) double)
refuses_vertex ids NoMemory none = tt

pub distinct_ids : (ids : List ℕ) → IsDistinct nat_eq (map (λ (id : ℕ). id) ids) → IsDistinct nat_eq ids
distinct_ids ids apart = subst (λ ks. IsDistinct nat_eq ks) (map-id ids) apart

-- ---- the order of the identifiers changes no fault of an edge

ends_same : (ids sorted : List ℕ) → IsPermutation ids sorted → (e : EdgeIn) (place : ℕ) → ends_fault ids e place ≡ ends_fault sorted e place
ends_same ids sorted same e place =
    rw (list_any-IsPermutation (λ id. eqb id e.from) ids sorted same, list_any-IsPermutation (λ id. eqb id e.to) ids sorted same) refl

first_same : {X : Type 0} (f g : List X → X → Option GraphFault) → ((before : List X) (x : X) → f before x ≡ g before x) → (before xs : List X) → first_fault f before xs ≡ first_fault g before xs
first_same f g same before [] = refl
first_same f g same before (x ∷ xs) = rw (same before x, first_same f g same (before ++ x ∷ []) xs) refl

edges_same : (ids sorted : List ℕ) (directed : Bool) → IsPermutation ids sorted → (edges : List EdgeIn) → first_fault (edge_fault ids directed) [] edges ≡ first_fault (edge_fault sorted directed) [] edges
edges_same ids sorted directed same edges =
    first_same (edge_fault ids directed) (edge_fault sorted directed) (λ before e. rw (ends_same ids sorted same e (length before)) refl) [] edges

pub graph_fault_is : (ids sorted : List ℕ) (edges : List EdgeIn) (directed : Bool) → IsPermutation ids sorted → first_fault vertex_fault [] ids ≡ None → graph_fault ids edges directed ≡ first_fault (edge_fault sorted directed) [] edges
graph_fault_is ids sorted edges directed same none = rw none (edges_same ids sorted directed same edges)

-- ---- mapped lists

pub all_unmapped : {X Y : Type 0} (P : Y → Type 0) (f : X → Y) (xs : List X) → All P (map f xs) → All (λ x. P (f x)) xs
all_unmapped P f xs all = λ k d l.
    let h : P (get_or (map f xs) k (f d)) = all k (f d) (omega (arith, l, length-map xs f)) in
    subst P (get_or-map f xs k d (f d) l) h

pub slice_get-map : {X Y : Type 0} (f : X → Y) (xs : List X) (i : ℕ) (x : X) → i < length xs → x ≡ get_or xs i x → slice_get (map f xs) i ≡ Some (f x)
slice_get-map f xs i x inside read =
    slice_get-get_or (map f xs) i (f x) (omega (arith, inside, length-map xs f)) ∙ ap Some (get_or-map f xs i x (f x) inside ∙ ap f (sym read))
