-- Rows that grow, and numbers that are written one by one.
use Rattle.std.proofs.Common.{◌≡◌, ◌≢◌, ℕ, ◌+◌, ◌<◌, ◌≤◌, List, [], ◌∷◌, ◌++◌, length, slice_index, slice_index_or, slice_set, sym, ◌∙◌, ap, subst, ⊎_elim, length-append, arith}
use Rattle.std.proofs.lemmas.Bool.{cases_eq}
use Rattle.std.proofs.lemmas.List.{get_or_append_left, get_or-set_other, get_or-set_same}
use Rattle.std.proofs.Math.Seq.{get_or-append_seam}
use Rattle.graph_core.specs.declared.halves.Half.{Half}
use Rattle.graph_core.specs.DataGraph.{DataGraph}
use Rattle.graph_core.specs.HalfRows.{data_half}
use Rattle.full_scope.specs.declared.links.FullLink.{FullLink}
use Rattle.full_scope.specs.FullLinks.{no_full_link}
use Rattle.full_scope.specs.FullRows.{IsFullLink}
use Rattle.full_cluster.specs.Inner.Rows.{AreEdgesSoFar, AreEndsSoFar, AreLinksSoFar, ComesFrom, ComesSoFar, nth_half}

-- an element more at the end: those before it, and it
pub before_end : {X : Type 0} (xs : List X) (y d : X) (k n : ℕ) → length xs ≡ n → k < n → slice_index_or (xs ++ y ∷ []) k d ≡ slice_index_or xs k d
before_end xs y d k n long low = get_or_append_left xs (y ∷ []) d k (omega (arith, long, low))

pub at_end : {X : Type 0} (xs : List X) (y d : X) (k : ℕ) → length xs ≡ k → slice_index_or (xs ++ y ∷ []) k d ≡ y
at_end xs y d k long = ap (λ j. slice_index_or (xs ++ y ∷ []) j d) (sym long) ∙ get_or-append_seam xs y [] d

pub longer : {X : Type 0} (xs : List X) (y : X) (n : ℕ) → length xs ≡ n → length (xs ++ y ∷ []) ≡ n + 1
longer xs y n long = omega (arith, long, length-append xs (y ∷ []))

pub links_more : (g : DataGraph) (halves : List Half) (i : ℕ) (links : List FullLink) (link : FullLink) → AreLinksSoFar g halves i links → IsFullLink g link (data_half (nth_half halves i)) → AreLinksSoFar g halves (i + 1) (links ++ link ∷ [])
links_more g halves i links link so_far its =
    record {
      count = longer links link i so_far.count;
      each = λ k low. ⊎_elim
          (λ (last : k ≡ i). subst (λ l. IsFullLink g l (data_half (nth_half halves k))) (sym (at_end links link no_full_link k (so_far.count ∙ sym last))) (subst (λ j. IsFullLink g link (data_half (nth_half halves j))) (sym last) its))
          (λ (other : k ≢ i). subst (λ l. IsFullLink g l (data_half (nth_half halves k))) (sym (before_end links link no_full_link k i so_far.count (omega arith))) (so_far.each k (omega arith)))
          (cases_eq k i);
    }

pub ends_more : (halves : List Half) (numbers : List ℕ) (i : ℕ) (row : List ℕ) (number : ℕ) → AreEndsSoFar halves numbers i row → number ≡ slice_index numbers (nth_half halves i).other.0 → AreEndsSoFar halves numbers (i + 1) (row ++ number ∷ [])
ends_more halves numbers i row number so_far its =
    record {
      count = longer row number i so_far.count;
      nears = λ k low. ⊎_elim
          (λ (last : k ≡ i). at_end row number 0 k (so_far.count ∙ sym last) ∙ its ∙ ap (λ j. slice_index numbers (nth_half halves j).other.0) (sym last))
          (λ (other : k ≢ i). before_end row number 0 k i so_far.count (omega arith) ∙ so_far.nears k (omega arith))
          (cases_eq k i);
    }

pub edges_first : (halves : List Half) (numbers edges : List ℕ) (row : List ℕ) → AreEndsSoFar halves numbers (length halves) row → AreEdgesSoFar halves numbers edges 0 row
edges_first halves numbers edges row ends = record { count = omega (arith, ends.count); nears = ends.nears; marks = λ k low. absurd (omega arith) }

pub edges_more : (halves : List Half) (numbers edges : List ℕ) (i : ℕ) (row : List ℕ) (number : ℕ) → AreEdgesSoFar halves numbers edges i row → number ≡ slice_index edges (nth_half halves i).edge.0 → AreEdgesSoFar halves numbers edges (i + 1) (row ++ number ∷ [])
edges_more halves numbers edges i row number so_far its =
    record {
      count = omega (arith, longer row number (length halves + i) so_far.count);
      nears = λ k low. before_end row number 0 k (length halves + i) so_far.count (omega arith) ∙ so_far.nears k low;
      marks = λ k low. ⊎_elim
          (λ (last : k ≡ i). at_end row number 0 (length halves + k) (omega (arith, so_far.count, last)) ∙ its ∙ ap (λ j. slice_index edges (nth_half halves j).edge.0) (sym last))
          (λ (other : k ≢ i). before_end row number 0 (length halves + k) (length halves + i) so_far.count (omega arith) ∙ so_far.marks k (omega arith))
          (cases_eq k i);
    }

-- ---- numbers that are written

module _ (place row : ℕ → ℕ) (count : ℕ) (old : List ℕ) where
  pub none_written : ComesSoFar place row count old 0 old
  none_written f rows olds x low apart = olds x low (λ k within. apart k (omega arith) within)

  pub one_written : (i : ℕ) (now : List ℕ) → i < count → length now ≡ length old → place i < length old → ComesSoFar place row count old i now → ComesSoFar place row count old (i + 1) (slice_set now (place i) (row i))
  one_written i now within long inside so_far f rows olds x low apart = ⊎_elim
      (λ (at : x ≡ place i).
      ap (slice_index (slice_set now (place i) (row i))) at ∙ get_or-set_same now (place i) (row i) 0 (omega (arith, long, inside)) ∙ rows i within ∙ ap f (sym at))
      (λ (off : x ≢ place i).
      get_or-set_other now (place i) x (row i) 0 off
      ∙ so_far f rows olds x low (λ k from below. ⊎_elim
      (λ (same : k ≡ i). λ is. off (sym is ∙ ap place same))
      (λ (other : k ≢ i). apart k (omega arith) below)
      (cases_eq k i)))
      (cases_eq x (place i))

  pub all_written : (i : ℕ) (new : List ℕ) → count ≤ i → ComesSoFar place row count old i new → ComesFrom place row count old new
  all_written i new past so_far f rows olds x low = so_far f rows olds x low (λ k from below. absurd (omega arith))
