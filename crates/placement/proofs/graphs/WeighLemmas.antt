-- Weights of atoms, counted one vertex or edge at a time.
use Rattle.std.proofs.Common.{◌≡◌, ◌<◌, ◌≤◌, ◌^◌, ℕ, ◌+◌, ◌*◌, ◌∙◌, ◌==◌, ◌||◌, if◌then◌else◌, Bool, true, false, List, length, set, cond, count_by, sum, ap, ap₂, sym, subst, inl, inr, slice_index, zero-add, arith}
use Rattle.std.proofs.lemmas.Bool.{cases_eq, eq-eqb, ne_eqb}
use Rattle.std.proofs.lemmas.Grind.{same_number_lists}
use Rattle.std.proofs.lemmas.List.{get_or-set_other, get_or-set_same, length-set}
use Rattle.std.proofs.lemmas.List.Elements.{All-from_get_or}
use Rattle.std.proofs.lemmas.List.FromFn.{get_or-map-range_with_len, length-map-range_with_len, sum_by-map-range_with_len_more}
use Rattle.std.proofs.lemmas.List.Sums.{length-filter, sum_by-le}
use Rattle.gl_base.specs.declared.atoms.EdgeLine.{EdgeLine}
use Rattle.gl_base.specs.declared.atoms.VertexLine.{VertexLine}
use Rattle.graph_core.specs.DataGraph.{DataGraph, IsDataGraph, size}
use Rattle.graph_core.specs.Graphs.{IsEdgeLine}
use Rattle.graph_atoms.specs.atom_cut.Atoms.{edge_lines, is_in, line_of_edge, own_line, touches, vertex_lines}
use Rattle.graph_atoms.proofs.atom_cut.FillLemmas.{line_of_edge-is}
use Rattle.placement.specs.graphs.Weights.{atom_weight, atom_weights}
use Rattle.placement.specs.graphs.Inner.Weighing.{AreWeights}

-- one at a place is added
added_at : (weights : List ℕ) (atom a : ℕ) → atom < length weights → slice_index (set weights atom (slice_index weights atom + 1)) a ≡ slice_index weights a + (if atom == a then 1 else 0)
added_at weights atom a low =
    elim (cases_eq atom a) [
      | inl at ↦
          ap (slice_index (set weights atom (slice_index weights atom + 1))) (sym at) ∙ get_or-set_same weights atom (slice_index weights atom + 1) 0 low
          ∙ ap (λ (i : ℕ). slice_index weights i + 1) at ∙ ap (λ (b : Bool). slice_index weights a + (if b then 1 else 0)) (sym (eq-eqb atom a at))
      | inr off ↦
          let kept : slice_index (set weights atom (slice_index weights atom + 1)) a ≡ slice_index weights a = get_or-set_other weights atom a (slice_index weights atom + 1) 0 (λ e. off (sym e)) in
          let none : one_if (atom == a) ≡ 0 = ap one_if (ne_eqb atom a off) in
          omega (arith, kept, none)
    ]
  where
    one_if : Bool → ℕ
    one_if b = if b then 1 else 0

bit_few : (b : Bool) → (if b then 1 else 0) ≤ 1
bit_few true = omega arith
bit_few false = omega arith

-- one vertex more
pub vertex_weighed : (g : DataGraph) (of : List ℕ) (n atom : ℕ) (weights : List ℕ) → AreWeights g of n 0 weights → atom ≡ slice_index of n → atom < length weights →
    AreWeights g of (n + 1) 0 (set weights atom (slice_index weights atom + 1))
vertex_weighed g of n atom weights before is low =
    record {
      each = λ a below.
          let inside : a < length weights = omega (arith, length-set weights atom (slice_index weights atom + 1), below) in
          let more : count_by (λ (v : VertexLine). is_in of a v.vertex.0) (vertex_lines g (n + 1)) ≡ count_by (λ (v : VertexLine). is_in of a v.vertex.0) (vertex_lines g n) + (if slice_index of n == a then 1 else 0) =
          sum_by-map-range_with_len_more (λ (v : VertexLine). cond (is_in of a v.vertex.0) 1 0) (own_line g) 0 n n (zero-add n) in
          let here : slice_index (set weights atom (slice_index weights atom + 1)) a ≡ slice_index weights a + (if slice_index of n == a then 1 else 0) =
          added_at weights atom a low ∙ ap (λ (k : ℕ). slice_index weights a + (if k == a then 1 else 0)) is in
          omega (arith, more, here, before.each a inside);
      few = λ a. omega (arith, added_at weights atom a low, bit_few (atom == a), before.few a);
    }

-- one edge more
pub edge_weighed : (g : DataGraph) (of : List ℕ) (n e from to : ℕ) (line : EdgeLine) (old new : List ℕ) → AreWeights g of n e old → length new ≡ length old → from ≡ slice_index of line.from.0 → to ≡ slice_index of line.to.0 → IsEdgeLine g e line →
    ((a : ℕ) → slice_index new a ≡ slice_index old a + (if from == a || to == a then 1 else 0)) → AreWeights g of n (e + 1) new
edge_weighed g of n e from to line old new before len begins ends is adds =
    record {
      each = λ a below.
          let inside : a < length old = omega (arith, len, below) in
          let more : count_by (touches of a) (edge_lines g (e + 1)) ≡ count_by (touches of a) (edge_lines g e) + (if touches of a (line_of_edge g e) then 1 else 0) =
          sum_by-map-range_with_len_more (λ (l : EdgeLine). cond (touches of a l) 1 0) (line_of_edge g) 0 e e (zero-add e) in
          let test : (from == a || to == a) ≡ touches of a (line_of_edge g e) =
          ap₂ (λ (x y : ℕ). x == a || y == a) begins ends ∙ ap (touches of a) (line_of_edge-is g e line is) in
          let here : slice_index new a ≡ slice_index old a + (if touches of a (line_of_edge g e) then 1 else 0) =
          adds a ∙ ap (λ (b : Bool). slice_index old a + (if b then 1 else 0)) test in
          omega (arith, more, here, before.each a inside);
      few = λ a. omega (arith, adds a, bit_few (from == a || to == a), before.few a);
    }

-- in the end the weights are those of the atoms
pub weights_are : (g : DataGraph) (of weights : List ℕ) (atoms : ℕ) → AreWeights g of (size g) (length g.edges) weights → length weights ≡ atoms → weights ≡ atom_weights g of atoms
weights_are g of weights atoms are many =
    same_number_lists weights (atom_weights g of atoms) (many ∙ sym (length-map-range_with_len (atom_weight g of) 0 atoms))
    (λ k low.
    are.each k low
    ∙ ap₂ (λ (x y : ℕ). x + y) (sym (length-filter (λ (v : VertexLine). is_in of k v.vertex.0) (vertex_lines g (size g)))) (sym (length-filter (touches of k) (edge_lines g (length g.edges))))
    ∙ sym (get_or-map-range_with_len (atom_weight g of) 0 atoms k k 0 (subst (λ (n : ℕ). k < n) many low) (zero-add k)))

-- and their sum is far below its limit
pub weights_fit : (g : DataGraph) (of weights : List ℕ) → IsDataGraph g → AreWeights g of (size g) (length g.edges) weights → length weights < 2 ^ 16 → sum weights < 2 ^ 64
weights_fit g of weights is are few =
    let many : size g + length g.edges ≤ 2 ^ 23 = omega (arith, is.few, is.few_edges) in
    let low : sum weights ≤ length weights * 2 ^ 23 = sum_by-le (λ (x : ℕ). x) (2 ^ 23) weights (All-from_get_or (λ (x : ℕ). x ≤ 2 ^ 23) weights 0 (λ i inside. omega (arith, are.few i, many))) in
    omega (arith, low, few)
