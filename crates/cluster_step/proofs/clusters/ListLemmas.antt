-- Links as one list.
use Rattle.std.proofs.Common.{List, ap, length, map, subst, sym, ◌*◌, ◌+◌, ◌<◌, ◌∙◌, ◌≡◌, ℕ}
use Rattle.std.proofs.lemmas.List.{length-map}
use Rattle.std.proofs.lemmas.List.Elements.{All-map}
use Rattle.std.specs.List.{All, flat_map}
use mathlib.Core.Option.{some}
use lib.ListN.{get_elem?}
use Rattle.cluster_step.specs.clusters.Inner.Writing.{HaveLinks}
use Rattle.cluster_step.specs.clusters.Links.{LinkView, empty_link, link_between}
use Rattle.cluster_step.proofs.clusters.Flatten.{at_flat, flat_long, flat_seen}
use Rattle.cluster_step.proofs.clusters.LinkLemmas.{columns_at}

module _ {R : Type 0} (rows : List R) (items : R → List LinkView) (old : List (List LinkView)) (view : map items rows ≡ old) (list : List LinkView) (is : list ≡ flat_map items rows) (n : ℕ) (have : HaveLinks old n) where
  list_is : list ≡ flat_map (λ row. row) old
  list_is = is ∙ flat_seen items rows ∙ ap (flat_map (λ (row : List LinkView). row)) view

  pub list_long : length list ≡ n * n
  list_long = ap length list_is ∙ flat_long n old (λ p low. have.columns p (subst (λ (k : ℕ). p < k) have.rows low)) ∙ ap (λ (k : ℕ). k * n) have.rows

  pub list_at : (i j : ℕ) → i < n → j < n → get_elem? list (i * n + j) ≡ some (link_between old i j)
  list_at i j low_i low_j =
      ap (λ (l : List LinkView). get_elem? l (i * n + j)) list_is
      ∙ at_flat n old (λ p low. have.columns p (subst (λ (k : ℕ). p < k) have.rows low)) i j (subst (λ (k : ℕ). i < k) (sym have.rows) low_i) low_j empty_link

pub rows_have : {R : Type 0} (rows : List R) (items : R → List LinkView) (n : ℕ) → length rows ≡ n → All (λ (row : R). length (items row) ≡ n) rows → HaveLinks (map items rows) n
rows_have rows items n many long =
    let all : length (map items rows) ≡ n = length-map rows items ∙ many in
    record { rows = all; columns = columns_at (map items rows) n all (All-map (λ (row : List LinkView). length row ≡ n) items rows long) }
