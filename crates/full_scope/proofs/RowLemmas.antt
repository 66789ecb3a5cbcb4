-- What an update leaves in the lists that it was lent are the numbers of its scope after it.
use Rattle.std.proofs.Common.{◌≡◌, ◌≢◌, ℕ, suc, ◌+◌, ◌<◌, false, List, [], ◌∷◌, length, map, slice_index, slice_index_or, refl, sym, ◌∙◌, ap, subst, arith}
use Rattle.graph_core.specs.DataGraph.{DataGraph, IsDataGraph}
use Rattle.graph_core.specs.Halves.{DataHalf, halves_of}
use Rattle.graph_core.proofs.HalvesLaws.{each-weaker, IsHalfAt, halves_are, half_other}
use Rattle.seq_run.specs.States.{GraphState}
use Rattle.seq_run.proofs.EachOf.{each_is}
use Rattle.seq_run.proofs.Waking.{with_number-same, with_number-other}
use Rattle.full_scope.specs.declared.links.FullLink.{FullLink}
use Rattle.full_scope.specs.FullUpdates.{Neighbour, Surroundings, FullUpdate}
use Rattle.full_scope.specs.FullStates.{neighbour_at, seen_around, with_each, after_full}
use Rattle.full_scope.specs.FullLinks.{no_full_link, neighbour_along, neighbour_in, neighbours_from, seen_in, AreWritten}
use Rattle.full_scope.specs.FullRows.{IsFullLink, AreAround}
use Rattle.full_scope.proofs.WithEach.{with_each-holds}
use Rattle.full_scope.proofs.OneHalf.{one_half, one_edge}

-- neighbours are the same where all is that an update sees of them
neighbour_paths : (n m : Neighbour) → n.id ≡ m.id → n.near.number ≡ m.near.number → n.near.mark ≡ m.near.mark → n.near.weight ≡ m.near.weight → n.near.out ≡ m.near.out → n.near.into ≡ m.near.into → n ≡ m
neighbour_paths n m id number mark weight out into =
    λ i. record { id = id i; near = record { number = number i; mark = mark i; weight = weight i; out = out i; into = into i } }

-- what is seen along each link is what lies along its half
along_is : (g : DataGraph) (s : GraphState) (link : FullLink) (h : DataHalf) (number mark : ℕ) → IsFullLink g link h → number ≡ s.vertex h.other → mark ≡ s.edge h.edge → neighbour_along link number mark ≡ neighbour_at g s h
along_is g s link h number mark same near edge = neighbour_paths (neighbour_along link number mark) (neighbour_at g s h) same.id near edge same.weight same.out same.into

neighbours_are : (g : DataGraph) (s : GraphState) (count k : ℕ) (numbers : List ℕ) (links : List FullLink) (halves : List DataHalf) → length links ≡ length halves →
    ((i : ℕ) (d : DataHalf) → i < length links → IsFullLink g (slice_index_or links i no_full_link) (slice_index_or halves i d)) →
    ((i place : ℕ) (d : DataHalf) → i < length links → place ≡ k + i → slice_index numbers place ≡ s.vertex (slice_index_or halves i d).other) →
    ((i place : ℕ) (d : DataHalf) → i < length links → place ≡ count + k + i → slice_index numbers place ≡ s.edge (slice_index_or halves i d).edge) →
    neighbours_from count k numbers links ≡ map (neighbour_at g s) halves
neighbours_are g s count k numbers [] [] same are near edge = refl
neighbours_are g s count k numbers [] (h ∷ halves) same are near edge = absurd (omega arith)
neighbours_are g s count k numbers (link ∷ links) [] same are near edge = absurd (omega arith)
neighbours_are g s count k numbers (link ∷ links) (h ∷ halves) same are near edge =
    let first : neighbour_along link (slice_index numbers k) (slice_index numbers (count + k)) ≡ neighbour_at g s h =
    along_is g s link h (slice_index numbers k) (slice_index numbers (count + k)) (are 0 h (omega arith)) (near 0 k h (omega arith) (omega arith)) (edge 0 (count + k) h (omega arith) (omega arith)) in
    let rest = neighbours_are g s count (suc k) numbers links halves (omega arith)
    (λ i d within. are (suc i) d (omega arith))
    (λ i place d within at. near (suc i) place d (omega arith) (omega arith))
    (λ i place d within at. edge (suc i) place d (omega arith) (omega arith)) in
    λ i. first i ∷ rest i

-- a vertex that sees these neighbours
abbrev among : ℕ → ℕ → List Neighbour → Surroundings
among id own neighbours = record { id = id; own = own; neighbours = neighbours }

module _ (g : DataGraph) (s : GraphState) (v : ℕ) (links : List FullLink) (numbers : List ℕ) (around : AreAround g s v links numbers) where
  pub seen_is : seen_in (slice_index g.ids v) (s.vertex v) links numbers ≡ seen_around g s v
  seen_is =
      let are = neighbours_are g s (length links) 0 numbers links (halves_of g v) around.count around.link
      (λ i place d within at. let here : i ≡ place = omega arith in subst (λ k. slice_index numbers k ≡ s.vertex (slice_index_or (halves_of g v) i d).other) here (around.near i d within))
      (λ i place d within at. let here : length links + i ≡ place = omega arith in subst (λ k. slice_index numbers k ≡ s.edge (slice_index_or (halves_of g v) i d).edge) here (around.edge i d within)) in
      λ i. among (slice_index g.ids v) (s.vertex v) (are i)

  -- what is seen along the i-th link
  pub neighbour_is : (i : ℕ) (d : DataHalf) → i < length links → neighbour_in links numbers i ≡ neighbour_at g s (slice_index_or (halves_of g v) i d)
  neighbour_is i d within =
      along_is g s (slice_index_or links i no_full_link) (slice_index_or (halves_of g v) i d) (slice_index numbers i) (slice_index numbers (length links + i))
      (around.link i d within) (around.near i d within) (around.edge i d within)

module _ (g : DataGraph) (is : IsDataGraph g) (p : FullUpdate) (s : GraphState) (v : ℕ) where
  -- the value of the i-th half stands at its key, where halves of one key have one value
  value_at : (key value : DataHalf → ℕ) (f : ℕ → ℕ) (i : ℕ) (d : DataHalf) → i < length (halves_of g v) →
      ((h k : DataHalf) → IsHalfAt g is v h → IsHalfAt g is v k → key k ≡ key h → value h ≡ value k) →
      with_each key value (halves_of g v) f (key (slice_index_or (halves_of g v) i d)) ≡ value (slice_index_or (halves_of g v) i d)
  value_at key value f i d within one =
      let halves = halves_of g v in
      let h = slice_index_or halves i d in
      let half : IsHalfAt g is v h = each_is (IsHalfAt g is v) halves (halves_are g is v) i d within in
      with_each-holds (λ x. x ≡ value h) key value halves f (key h)
      (each-weaker (IsHalfAt g is v) (λ k. key h ≡ key k → value k ≡ value h) (λ k other same. one k h other half same) halves (halves_are g is v))
      (λ none. absurd (each_is (λ k. key h ≢ key k) halves none i d within refl))

  pub number_left : (after_full g p s v).vertex v ≡ p.number (seen_around g s v)
  number_left = with_number-same (with_each (λ h. h.other) (λ h. p.near (seen_around g s v) (neighbour_at g s h)) (halves_of g v) s.vertex) v (p.number (seen_around g s v))

  pub near_left : g.directed ≡ false → (i : ℕ) (d : DataHalf) → i < length (halves_of g v) →
      (after_full g p s v).vertex (slice_index_or (halves_of g v) i d).other ≡ p.near (seen_around g s v) (neighbour_at g s (slice_index_or (halves_of g v) i d))
  near_left undirected i d within =
      let h = slice_index_or (halves_of g v) i d in
      let value = λ (k : DataHalf). p.near (seen_around g s v) (neighbour_at g s k) in
      let half : IsHalfAt g is v h = each_is (IsHalfAt g is v) (halves_of g v) (halves_are g is v) i d within in
      with_number-other (with_each (λ k. k.other) value (halves_of g v) s.vertex) v (p.number (seen_around g s v)) h.other (half_other g is v h half).1
      ∙ value_at (λ k. k.other) value s.vertex i d within (λ k m one other same. ap value (one_half g is v k m one other (one_edge g is v undirected k m one other (sym same))))

  pub edge_left : (i : ℕ) (d : DataHalf) → i < length (halves_of g v) →
      (after_full g p s v).edge (slice_index_or (halves_of g v) i d).edge ≡ p.mark (seen_around g s v) (neighbour_at g s (slice_index_or (halves_of g v) i d))
  edge_left i d within =
      let value = λ (k : DataHalf). p.mark (seen_around g s v) (neighbour_at g s k) in
      value_at (λ k. k.edge) value s.edge i d within (λ k m one other same. ap value (one_half g is v k m one other (sym same)))

pub rows_left : (g : DataGraph) (p : FullUpdate) (s : GraphState) (v : ℕ) (links : List FullLink) (old new : List ℕ) → IsDataGraph g → g.directed ≡ false → AreAround g s v links old →
    AreWritten (p.near (seen_in (slice_index g.ids v) (s.vertex v) links old)) (p.mark (seen_in (slice_index g.ids v) (s.vertex v) links old)) links old new → AreAround g (after_full g p s v) v links new
rows_left g p s v links old new is undirected around written =
    let seen = seen_is g s v links old around in
    let count = around.count in
    record {
      count = around.count;
      full = written.as_many ∙ around.full;
      link = around.link;
      near = λ i d within.
          written.nears i within ∙ (λ j. p.near (seen j) (neighbour_is g s v links old around i d within j))
          ∙ sym (near_left g is p s v undirected i d (omega arith));
      edge = λ i d within.
          written.marks i within ∙ (λ j. p.mark (seen j) (neighbour_is g s v links old around i d within j))
          ∙ sym (edge_left g is p s v i d (omega arith));
    }
