-- Vertices that differ get their atoms one after the other.
use Rattle.std.proofs.Common.{◌≡◌, ◌≢◌, ℕ, ◌+◌, ◌<◌, inl, inr, List, length, slice_index, set, sym, ap, ◌∙◌, arith, get_or-set_other, get_or-set_same}
use Rattle.std.proofs.lemmas.Bool.{cases_lt, eqb-false}
use Rattle.std.proofs.lemmas.Map.Keys.{apart_from_distinct}
use Rattle.graph_core.specs.Growth.{ListsEach}

-- each vertex stands in the list once
pub listed_apart : (n : ℕ) (order : List ℕ) (i j : ℕ) → ListsEach n order → i < j → j < length order → slice_index order i ≢ slice_index order j
listed_apart n order i j each before inside =
    eqb-false (slice_index order i) (slice_index order j) (apart_from_distinct _ order i j 0 each.apart before inside)

-- the vertex at the next place gets its atom
pub assigned-more : (n : ℕ) (order of : List ℕ) (f : ℕ → ℕ) (place atom : ℕ) → ListsEach n order → place < length order → slice_index order place < length of → atom ≡ f place → ((p : ℕ) → p < place → slice_index of (slice_index order p) ≡ f p)
    → (p : ℕ) → p < place + 1 → slice_index (set of (slice_index order place) atom) (slice_index order p) ≡ f p
assigned-more n order of f place atom each inside below is before p h = elim (cases_lt p place) [
  | inl earlier ↦
      get_or-set_other of (slice_index order place) (slice_index order p) atom 0 (listed_apart n order p place each earlier inside)
      ∙ before p earlier
  | inr now ↦
      let same : p ≡ place = omega arith in
      ap (λ (q : ℕ). slice_index (set of (slice_index order place) atom) (slice_index order q)) same
      ∙ get_or-set_same of (slice_index order place) atom 0 below ∙ is ∙ ap f (sym same)
]
