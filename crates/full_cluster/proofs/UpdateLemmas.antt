-- What an update leaves in the lists of all numbers.
use Rattle.std.proofs.Common.{◌≡◌, ◌≢◌, ℕ, ◌+◌, ◌<◌, ◌||◌, true, false, suc, List, [], ◌∷◌, length, map, All, slice_index, slice_index_or, slice_set, sym, ◌∙◌, ap, subst, ⊎_elim, length-set, arith}
use Rattle.std.specs.List.{AllByRecursion}
use Rattle.std.proofs.lemmas.Bool.{cases_eq}
use Rattle.std.proofs.lemmas.List.{get_or-map, get_or-set_other, get_or-set_same, length-map}
use Rattle.graph_core.specs.declared.halves.Half.{Half}
use Rattle.graph_core.specs.DataGraph.{DataGraph, IsDataGraph, size}
use Rattle.graph_core.specs.HalfRows.{data_half}
use Rattle.graph_core.specs.Halves.{DataHalf, halves_of}
use Rattle.graph_core.proofs.HalvesLaws.{IsHalfAt, half_other, halves_are}
use Rattle.update_api.specs.declared.woken.Woken.{Woken}
use Rattle.seq_run.specs.Runs.{AreNumbers}
use Rattle.seq_run.specs.States.{GraphState, is_woken}
use Rattle.seq_run.proofs.EachOf.{each_is}
use Rattle.seq_run.proofs.LinkLemmas.{halves_lead}
use Rattle.seq_run.proofs.Neighbours.{each-unmap}
use Rattle.full_scope.specs.declared.links.FullLink.{FullLink}
use Rattle.full_scope.specs.FullLinks.{AreWritten, no_full_link, seen_in}
use Rattle.full_scope.specs.FullRows.{AreAround, IsFullLink}
use Rattle.full_scope.specs.FullStates.{after_full, full_wakes}
use Rattle.full_scope.specs.FullUpdates.{FullUpdate, Surroundings}
use Rattle.full_scope.proofs.RowLemmas.{number_left, rows_left, seen_is}
use Rattle.full_scope.proofs.WithEach.{after-edge_other, after-vertex_other}
use Rattle.full_cluster.specs.Inner.Making.{IsMade}
use Rattle.full_cluster.specs.Inner.Rows.{AreLinksOf, ComesFrom, IsRowAlong, no_half, nth_half}
use Rattle.full_cluster.specs.Written.{state_in}

each_by_place : (P : DataHalf → Type 0) (halves : List Half) → ((i : ℕ) → i < length halves → P (data_half (nth_half halves i))) → AllByRecursion P (map data_half halves)
each_by_place P [] each = tt
each_by_place P (h ∷ halves) each = (each 0 (omega arith), each_by_place P halves (λ i low. each (suc i) (omega arith)))

module _ (g : DataGraph) (is : IsDataGraph g) (v : ℕ) (halves : List Half) (same : map data_half halves ≡ halves_of g v) where
  half_is : (i : ℕ) → i < length halves → IsHalfAt g is v (data_half (nth_half halves i))
  half_is i low =
      each_is (λ half. IsHalfAt g is v (data_half half)) halves (each-unmap (IsHalfAt g is v) data_half halves (subst (AllByRecursion (IsHalfAt g is v)) (sym same) (halves_are g is v))) i no_half low

  pub ends_low : (n i : ℕ) → n ≡ size g → i < length halves → (nth_half halves i).other.0 < n
  ends_low n i count low = let h = (half_other g is v (data_half (nth_half halves i)) (half_is i low)).0 in omega (arith, count, h)

  pub edges_low : (m i : ℕ) → m ≡ length g.edges → i < length halves → (nth_half halves i).edge.0 < m
  edges_low m i count low =
      let half = half_is i low in
      let number = half.number in
      let there = half.within in
      omega (arith, count, number, there)

  pub lead : All (λ half. (half.out || half.into) ≡ true) halves
  lead = halves_lead g is v halves same

  half_at : (i : ℕ) (d : DataHalf) → i < length halves → slice_index_or (halves_of g v) i d ≡ data_half (nth_half halves i)
  half_at i d low = ap (λ l. slice_index_or l i d) (sym same) ∙ get_or-map data_half halves i no_half d low

  each_half : (P : DataHalf → Type 0) → ((i : ℕ) → i < length halves → P (data_half (nth_half halves i))) → AllByRecursion P (halves_of g v)
  each_half P each = subst (AllByRecursion P) same (each_by_place P halves each)

  module _ (undirected : g.directed ≡ false) (p : FullUpdate) (links : List FullLink) (are : AreLinksOf g halves links) (numbers edges row : List ℕ) (is_row : IsRowAlong halves numbers edges row) (low : v < size g) where
    abbrev s : GraphState
    s = state_in numbers edges

    abbrev after : GraphState
    after = after_full g p s v

    abbrev seen : Surroundings
    seen = seen_in (slice_index g.ids v) (slice_index numbers v) links row

    around : AreAround g s v links row
    around =
        record {
          count = are.count ∙ sym (length-map halves data_half) ∙ ap length same;
          full = is_row.count ∙ (λ k. sym are.count k + sym are.count k);
          link = λ i d inside. subst (λ h. IsFullLink g (slice_index_or links i no_full_link) h) (sym (half_at i d (omega (arith, are.count, inside)))) (are.each i (omega (arith, are.count, inside)));
          near = λ i d inside. is_row.nears i (omega (arith, are.count, inside)) ∙ ap (λ (h : DataHalf). slice_index numbers h.other) (sym (half_at i d (omega (arith, are.count, inside))));
          edge = λ i d inside. ap (λ n. slice_index row (n + i)) are.count ∙ is_row.marks i (omega (arith, are.count, inside)) ∙ ap (λ (h : DataHalf). slice_index edges h.edge) (sym (half_at i d (omega (arith, are.count, inside))));
        }

    pub woken_left : (woken : Woken) → woken ≡ p.woken seen → (u : ℕ) → full_wakes g p s v u ≡ is_woken woken (halves_of g v) u
    woken_left woken its u = ap (λ (x : Surroundings). is_woken (p.woken x) (halves_of g v) u) (sym (seen_is g s v links row around)) ∙ ap (λ x. is_woken x (halves_of g v) u) (sym its)

    own_left : after.vertex v ≡ p.number seen
    own_left = number_left g is p s v ∙ ap p.number (sym (seen_is g s v links row around))

    module _ (left : List ℕ) (written : AreWritten (p.near seen) (p.mark seen) links row left) where
      around_after : AreAround g after v links left
      around_after = rows_left g p s v links row left is undirected around written

      -- what the copies have then
      pub made_left : (centre : ℕ) → centre ≡ p.number seen → IsMade g after v centre left
      made_left centre its =
          let many = around_after.count in
          record {
            own = its ∙ sym own_left;
            count = around_after.full ∙ (λ k. many k + many k);
            near = λ i d inside. around_after.near i d (omega (arith, many, inside));
            edge = λ i d inside. ap (λ n. slice_index left (n + i)) (sym many) ∙ around_after.edge i d (omega (arith, many, inside));
          }

  -- ---- the row of what was made, along the halves

  pub many_are : length halves ≡ length (halves_of g v)
  many_are = sym (length-map halves data_half) ∙ ap length same

  pub near_there : (after : GraphState) (centre : ℕ) (row : List ℕ) → IsMade g after v centre row → (i : ℕ) → i < length halves → slice_index row i ≡ after.vertex (nth_half halves i).other.0
  near_there after centre row made i within =
      made.near i (data_half no_half) (omega (arith, many_are, within)) ∙ ap (λ (h : DataHalf). after.vertex h.other) (half_at i (data_half no_half) within)

  pub edge_there : (after : GraphState) (centre : ℕ) (row : List ℕ) → IsMade g after v centre row → (i : ℕ) → i < length halves → slice_index row (length halves + i) ≡ after.edge (nth_half halves i).edge.0
  edge_there after centre row made i within =
      ap (λ n. slice_index row (n + i)) many_are ∙ made.edge i (data_half no_half) (omega (arith, many_are, within)) ∙ ap (λ (h : DataHalf). after.edge h.edge) (half_at i (data_half no_half) within)

  -- ---- what was made is written

  module _ (p : FullUpdate) (numbers edges : List ℕ) (low : v < size g) (centre : ℕ) (row : List ℕ) (made : IsMade g (after_full g p (state_in numbers edges) v) v centre row) where
    abbrev written_state : GraphState
    written_state = after_full g p (state_in numbers edges) v

    pub row_long : length row ≡ length halves + length halves
    row_long = made.count ∙ (λ k. sym many_are k + sym many_are k)

    pub numbers_left : (new : List ℕ) → length numbers ≡ size g → length new ≡ length numbers → ComesFrom (λ i. (nth_half halves i).other.0) (slice_index row) (length halves) (slice_set numbers v centre) new → AreNumbers (size g) written_state.vertex new
    numbers_left new count as_long comes =
        let whole : length (slice_set numbers v centre) ≡ size g = length-set numbers v centre ∙ count in
        record {
          count = as_long ∙ count;
          each = λ x inside. comes written_state.vertex
              (λ i within. near_there written_state centre row made i within)
              (λ y there apart. ⊎_elim
              (λ (own : y ≡ v). ap (slice_index (slice_set numbers v centre)) own ∙ get_or-set_same numbers v centre 0 (omega (arith, count, low)) ∙ made.own ∙ ap written_state.vertex (sym own))
              (λ (other : y ≢ v).
              get_or-set_other numbers v y centre 0 other
              ∙ sym (after-vertex_other g p (state_in numbers edges) v y other (each_half (λ h. y ≢ h.other) (λ i within same_end. apart i within (sym same_end)))))
              (cases_eq y v))
              x (omega (arith, whole, inside));
        }

    pub edges_left : (new : List ℕ) → length edges ≡ length g.edges → length new ≡ length edges → ComesFrom (λ i. (nth_half halves i).edge.0) (λ i. slice_index row (length halves + i)) (length halves) edges new → AreNumbers (length g.edges) written_state.edge new
    edges_left new count as_long comes =
        record {
          count = as_long ∙ count;
          each = λ e inside. comes written_state.edge
              (λ i within. edge_there written_state centre row made i within)
              (λ y there apart. sym (after-edge_other g p (state_in numbers edges) v y (each_half (λ h. y ≢ h.edge) (λ i within same_edge. apart i within (sym same_edge)))))
              e (omega (arith, count, inside));
        }
