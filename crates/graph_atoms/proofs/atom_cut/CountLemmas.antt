-- Edges between atoms, counted one at a time.
use Rattle.std.proofs.Common.{◌≡◌, ◌≢◌, ℕ, zero, suc, ◌+◌, ◌-◌, ◌*◌, ◌<◌, ◌≤◌, ◌⊎◌, inl, inr, Bool, true, false, cond, eqb, ◌&&◌, ◌||◌, List, ◌++◌, length, slice_index, set, refl, sym, ap, ◌∙◌, arith, append_assoc, get_or-set_same, get_or-set_other}
use Rattle.std.specs.Prelude.{min, max}
use Rattle.std.specs.List.{flat_map, range_with_len}
use Rattle.std.proofs.lemmas.Bool.{cases_eq, cases_lt, ne_eqb, eq-eqb}
use Rattle.std.proofs.lemmas.List.{append-nil}
use Rattle.std.proofs.lemmas.List.FromFn.{sum_by-map-range_with_len_more}
use Rattle.std.proofs.lemmas.Nat.{same_from_place}
use Rattle.gl_base.specs.declared.atoms.EdgeLine.{EdgeLine}
use Rattle.graph_core.specs.DataGraph.{DataGraph}
use Rattle.graph_core.specs.Graphs.{IsEdgeLine}
use Rattle.graph_atoms.specs.atom_cut.Atoms.{line_of_edge}
use Rattle.graph_atoms.specs.atom_cut.MetaEdges.{are_both, is_between, edges_between, meta_edge, metas_behind, metas_among, meta_edges}
use Rattle.graph_atoms.specs.atom_cut.Inner.Counting.{pair_place, count_in, AreEdgeCounts}
use Rattle.graph_atoms.proofs.atom_cut.FillLemmas.{line_of_edge-is}

or_true : (x : Bool) → (x || true) ≡ true
or_true true = refl
or_true false = refl

and_false : (x : Bool) → (x && false) ≡ false
and_false true = refl
and_false false = refl

-- the pair of the two numbers is this one, in one order or the other
both_yes : (a b x y : ℕ) → ((x ≡ a) × (y ≡ b)) ⊎ ((x ≡ b) × (y ≡ a)) → are_both a b x y ≡ true
both_yes a b x y (inl h) = rw (eq-eqb x a h.0, eq-eqb y b h.1) refl
both_yes a b x y (inr h) = rw (eq-eqb x b h.0, eq-eqb y a h.1) (or_true (eqb x a && eqb y b))

pair_no : (x y a b : ℕ) → ((x ≡ a) × (y ≡ b) → ⊥) → (eqb x a && eqb y b) ≡ false
pair_no x y a b other = elim (cases_eq x a) [
  | inl e ↦ ap (λ (t : Bool). eqb x a && t) (ne_eqb y b (λ f. other (e, f))) ∙ and_false (eqb x a)
  | inr n ↦ ap (λ (t : Bool). t && eqb y b) (ne_eqb x a n)
]

both_no : (a b x y : ℕ) → (((x ≡ a) × (y ≡ b)) ⊎ ((x ≡ b) × (y ≡ a)) → ⊥) → are_both a b x y ≡ false
both_no a b x y other =
    ap (λ (t : Bool). t || (eqb x b && eqb y a)) (pair_no x y a b (λ h. other (inl h))) ∙ pair_no x y b a (λ h. other (inr h))

-- where the places of two pairs are one, the pairs are
place_tells : (k x y a b : ℕ) → x ≢ y → x < k → y < k → a < b → b < k → a * k + b ≡ pair_place k x y → ((x ≡ a) × (y ≡ b)) ⊎ ((x ≡ b) × (y ≡ a))
place_tells k x y a b apart xk yk ab bk same =
    let bound : max x y < k = omega (arith) in
    let parts = same_from_place a b (min x y) (max x y) k bk bound same in
    elim (cases_lt x y) [
      | inl l ↦ inl (omega (arith, parts), omega (arith, parts))
      | inr n ↦ inr (omega (arith, parts), omega (arith, parts))
    ]

place_is : (k x y a b : ℕ) → a < b → ((x ≡ a) × (y ≡ b)) ⊎ ((x ≡ b) × (y ≡ a)) → a * k + b ≡ pair_place k x y
place_is k x y a b ab (inl h) =
    let low : a ≡ min x y = omega (arith, h) in
    let high : b ≡ max x y = omega (arith, h) in
    ap (λ (n : ℕ). n * k + b) low ∙ ap (λ (n : ℕ). min x y * k + n) high
place_is k x y a b ab (inr h) =
    let low : a ≡ min x y = omega (arith, h) in
    let high : b ≡ max x y = omega (arith, h) in
    ap (λ (n : ℕ). n * k + b) low ∙ ap (λ (n : ℕ). min x y * k + n) high

-- an edge inside an atom is between no two
pub same_atom : (a b x y : ℕ) → a < b → x ≡ y → are_both a b x y ≡ false
same_atom a b x y ab e = both_no a b x y (λ h. elim h [
  | inl s ↦ omega (arith, s, e)
  | inr s ↦ omega (arith, s, e)
])

-- an edge between two atoms is counted for these two alone
pub counted_one : (k x y : ℕ) (counts : List ℕ) (place : ℕ) → x ≢ y → x < k → y < k → place ≡ pair_place k x y → place < length counts → (a b : ℕ) → a < b → b < k → count_in k (set counts place (slice_index counts place + 1)) a b ≡ count_in k counts a b + cond (are_both a b x y) 1 0
counted_one k x y counts place apart xk yk at inside a b ab bk = elim (cases_eq (a * k + b) place) [
  | inl e ↦
      let pair = both_yes a b x y (place_tells k x y a b apart xk yk ab bk (e ∙ at)) in
      ap (λ (i : ℕ). slice_index (set counts place (slice_index counts place + 1)) i) e ∙ get_or-set_same counts place (slice_index counts place + 1) 0 inside
      ∙ ap (λ (i : ℕ). slice_index counts i + 1) (sym e) ∙ ap (λ (t : Bool). count_in k counts a b + cond t 1 0) (sym pair)
  | inr n ↦
      let pair = both_no a b x y (λ h. n (place_is k x y a b ab h ∙ sym at)) in
      let kept = get_or-set_other counts place (a * k + b) (slice_index counts place + 1) 0 n in
      let none : ◌≡◌ {A = ℕ} (cond (are_both a b x y) 1 0) 0 = ap (λ (t : Bool). cond t 1 0) pair in
      omega (arith, kept, none)
]

-- one edge more
pub counted_more : (g : DataGraph) (of : List ℕ) (k e from to : ℕ) (line : EdgeLine) (old new : List ℕ) → AreEdgeCounts g of k e old → length new ≡ length old → from ≡ slice_index of line.from.0 → to ≡ slice_index of line.to.0 → IsEdgeLine g e line → ((a b : ℕ) → a < b → b < k → count_in k new a b ≡ count_in k old a b + cond (are_both a b from to) 1 0) → ((i : ℕ) → slice_index new i ≤ slice_index old i + 1) → AreEdgeCounts g of k (e + 1) new
counted_more g of k e from to line old new before len begins ends is each few =
    record {
      room = len ∙ before.room;
      each = λ a b ab bk.
          let test : are_both a b from to ≡ is_between of a b (line_of_edge g e) =
          ap (λ (x : ℕ). are_both a b x to) begins ∙ ap (λ (y : ℕ). are_both a b (slice_index of line.from.0) y) ends ∙ ap (is_between of a b) (line_of_edge-is g e line is) in
          each a b ab bk ∙ ap (λ (n : ℕ). n + cond (are_both a b from to) 1 0) (before.each a b ab bk)
          ∙ ap (λ (t : Bool). edges_between g of e a b + cond t 1 0) test
          ∙ sym (sum_by-map-range_with_len_more (λ l. cond (is_between of a b l) 1 0) (line_of_edge g) 0 e e (omega arith));
      few = λ i. omega (arith, few i, before.few i);
    }

-- one more of a range
pub flat_map-range_more : {X : Type 0} (f : ℕ → List X) (s n k : ℕ) → s + n ≡ k → flat_map f (range_with_len s (n + 1)) ≡ flat_map f (range_with_len s n) ++ f k
flat_map-range_more f s zero k h = append-nil (f s) ∙ ap f (omega (arith, h))
flat_map-range_more f s (suc n) k h =
    let next : suc n + 1 ≡ suc (n + 1) = omega arith in
    ap (λ (m : ℕ). flat_map f (range_with_len s m)) next
    ∙ ap (λ (xs : List _). f s ++ xs) (flat_map-range_more f (s + 1) n k (omega (arith, h)))
    ∙ sym (append_assoc (f s) (flat_map f (range_with_len (s + 1) n)) (f k))

-- what is made of a range is what is made of its numbers
pub flat_map-range_same : {X : Type 0} (f h : ℕ → List X) (s n : ℕ) → ((i : ℕ) → s ≤ i → i < s + n → f i ≡ h i) → flat_map f (range_with_len s n) ≡ flat_map h (range_with_len s n)
flat_map-range_same f h s zero same = refl
flat_map-range_same f h s (suc n) same =
    ap (λ (xs : List _). xs ++ flat_map f (range_with_len (s + 1) n)) (same s (omega arith) (omega arith))
    ∙ ap (λ (xs : List _). h s ++ xs) (flat_map-range_same f h (s + 1) n (λ i low high. same i (omega (arith, low)) (omega (arith, high))))

meta_same : (f h : ℕ → ℕ → ℕ) (a b : ℕ) → f a b ≡ h a b → meta_edge f a b ≡ meta_edge h a b
meta_same f h a b e = ap (λ (n : ℕ). meta_edge (λ _ _. n) a b) e

-- where the counts are those of the graph, so are the meta-edges
pub metas_counted : (g : DataGraph) (of : List ℕ) (k : ℕ) (counts : List ℕ) → AreEdgeCounts g of k (length g.edges) counts → metas_among (count_in k counts) k ≡ meta_edges g of k
metas_counted g of k counts are =
    let f = count_in k counts in
    let h = edges_between g of (length g.edges) in
    flat_map-range_same (λ a. metas_behind f a (k - (a + 1))) (λ a. metas_behind h a (k - (a + 1))) 0 k
    (λ a _ inside.
    flat_map-range_same (meta_edge f a) (meta_edge h a) (a + 1) (k - (a + 1))
    (λ b low high. meta_same f h a b (are.each a b (omega (arith, low)) (omega (arith, low, high, inside)))))
