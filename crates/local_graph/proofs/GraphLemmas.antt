-- The half-edges of a graph, as a machine reads them.
use Rattle.std.proofs.Common.{◌≡◌, ℕ, suc, ◌+◌, ◌<◌, ◌==◌, ◌&&◌, ◌||◌, Bool, true, false, not, if◌then◌else◌, List, [], ◌∷◌, length, get_or, map, refl, sym, ap, ◌∙◌, All, arith, inl, inr}
use Rattle.std.specs.List.{list_any}
use Rattle.std.proofs.lemmas.Bool.{cases_eq, eq-eqb, ne_eqb}
use Rattle.std.proofs.lemmas.List.Elements.{All-nil, All-cons, All-append, All-head, All-map, All-tail}
use Rattle.std.proofs.lemmas.List.Folds.{list_any-append}
use Rattle.graph_core.specs.DataGraph.{DataEdge, DataGraph, IsDataGraph, IsEdge, size}
use Rattle.graph_core.specs.Halves.{DataHalf, half_at, halves_from, halves_of}
use Rattle.graph_core.specs.HalfRows.{data_half}
use Rattle.graph_core.specs.declared.halves.Half.{Half}
use Rattle.local_graph.specs.Lines.{half_of}
use Rattle.local_graph.specs.Played.{graph_halves}

-- half-edges that the graph sees as its own are those
pub rows_are : (hs : List Half) (ds : List DataHalf) → map data_half hs ≡ ds → hs ≡ map half_of ds
rows_are hs ds is = back hs ∙ ap (map half_of) is
  where
    back : (hs : List Half) → hs ≡ map half_of (map data_half hs)
    back [] = refl
    back (h ∷ hs) = ap (λ (gs : List Half). h ∷ gs) (back hs)

-- ---- their edges are those of the graph

low_from : (directed : Bool) (v k m : ℕ) (edges : List DataEdge) → k + length edges ≡ m → All (λ (d : DataHalf). d.edge < m) (halves_from directed v k edges)
low_from directed v k m [] is = All-nil (λ (d : DataHalf). d.edge < m)
low_from directed v k m (e ∷ edges) is =
    All-append (λ (d : DataHalf). d.edge < m) (half_at directed v k e) (halves_from directed v (suc k) edges) (here (e.from == v) (e.to == v)) (low_from directed v (suc k) m edges (omega arith))
  where
    here : (a b : Bool) → All (λ (d : DataHalf). d.edge < m)
        (if a then record { edge = k; other = e.to; weight = e.weight; out = true; into = not directed } ∷ [] else (if b then record { edge = k; other = e.from; weight = e.weight; out = not directed; into = true } ∷ [] else []))
    here true b = All-cons (λ (d : DataHalf). d.edge < m) (record { edge = k; other = e.to; weight = e.weight; out = true; into = not directed }) [] (omega arith) (All-nil (λ (d : DataHalf). d.edge < m))
    here false true = All-cons (λ (d : DataHalf). d.edge < m) (record { edge = k; other = e.from; weight = e.weight; out = not directed; into = true }) [] (omega arith) (All-nil (λ (d : DataHalf). d.edge < m))
    here false false = All-nil (λ (d : DataHalf). d.edge < m)

pub graph_listed : (g : DataGraph) (v : ℕ) → All (λ (h : Half). h.edge.0 < length g.edges) (graph_halves g v)
graph_listed g v = All-map (λ (h : Half). h.edge.0 < length g.edges) half_of (halves_of g v) (low_from g.directed v 0 (length g.edges) g.edges (omega arith))

-- ---- whoever has a neighbour is its neighbour

one_back : (directed : Bool) (v x k : ℕ) (e : DataEdge) → (e.from ≡ e.to → ⊥) → list_any (λ (d : DataHalf). d.other == x) (half_at directed v k e) ≡ ((e.from == v && e.to == x) || (e.to == v && e.from == x))
one_back directed v x k e apart = elim (cases_eq e.from v) [
  | inl at ↦
      let off = ne_eqb e.to v (λ q. apart (at ∙ sym q)) in
      let on = eq-eqb e.from v at in
      rw (on, off) refl
  | inr off ↦
      let not_from = ne_eqb e.from v off in
      rw not_from (here (e.to == v))
]
  where
    or_false : (b : Bool) → (b || false) ≡ b
    or_false true = refl
    or_false false = refl

    here : (b : Bool) → list_any (λ (d : DataHalf). d.other == x) (if b then record { edge = k; other = e.from; weight = e.weight; out = not directed; into = true } ∷ [] else []) ≡ (b && e.from == x)
    here true = or_false (e.from == x)
    here false = refl

edges_back : (directed : Bool) (v x k : ℕ) (edges : List DataEdge) → All (λ (e : DataEdge). e.from ≡ e.to → ⊥) edges
    → list_any (λ (d : DataHalf). d.other == x) (halves_from directed v k edges) ≡ list_any (λ (d : DataHalf). d.other == v) (halves_from directed x k edges)
edges_back directed v x k [] apart = refl
edges_back directed v x k (e ∷ edges) apart =
    let here = All-head (λ (e : DataEdge). e.from ≡ e.to → ⊥) e edges apart in
    list_any-append (λ (d : DataHalf). d.other == x) (half_at directed v k e) (halves_from directed v (suc k) edges)
    ∙ ap (λ b. b || list_any (λ (d : DataHalf). d.other == x) (halves_from directed v (suc k) edges))
    (one_back directed v x k e here ∙ swapped (e.from == v) (e.to == x) (e.to == v) (e.from == x) ∙ sym (one_back directed x v k e here))
    ∙ ap (λ b. list_any (λ (d : DataHalf). d.other == v) (half_at directed x k e) || b) (edges_back directed v x (suc k) edges (All-tail (λ (e : DataEdge). e.from ≡ e.to → ⊥) e edges apart))
    ∙ sym (list_any-append (λ (d : DataHalf). d.other == v) (half_at directed x k e) (halves_from directed x (suc k) edges))
  where
    swapped : (a b c d : Bool) → ((a && b) || (c && d)) ≡ ((d && c) || (b && a))
    swapped true true true true = refl
    swapped true true true false = refl
    swapped true true false true = refl
    swapped true true false false = refl
    swapped true false true true = refl
    swapped true false true false = refl
    swapped true false false true = refl
    swapped true false false false = refl
    swapped false true true true = refl
    swapped false true true false = refl
    swapped false true false true = refl
    swapped false true false false = refl
    swapped false false true true = refl
    swapped false false true false = refl
    swapped false false false true = refl
    swapped false false false false = refl

pub graph_back : (g : DataGraph) → IsDataGraph g → (v x : ℕ) → list_any (λ (h : Half). h.other.0 == x) (graph_halves g v) ≡ list_any (λ (h : Half). h.other.0 == v) (graph_halves g x)
graph_back g is v x =
    seen x (halves_of g v) ∙ edges_back g.directed v x 0 g.edges (λ k d low. let e : IsEdge (size g) g.directed (get_or g.edges k d) = is.edges k d low in e.apart) ∙ sym (seen v (halves_of g x))
  where
    seen : (x : ℕ) (ds : List DataHalf) → list_any (λ (h : Half). h.other.0 == x) (map half_of ds) ≡ list_any (λ (d : DataHalf). d.other == x) ds
    seen x [] = refl
    seen x (d ∷ ds) = ap (λ b. (d.other == x) || b) (seen x ds)
