-- Edges are marked one after another.
use Rattle.std.proofs.Common.{◌≡◌, ◌≢◌, ℕ, ◌+◌, ◌<◌, List, length, All, slice_index, slice_index_or, slice_set, sym, ◌∙◌, subst, ⊎_elim, arith}
use Rattle.std.specs.List.{AllPairs}
use Rattle.std.proofs.Math.ListN.{length-set}
use Rattle.std.proofs.lemmas.List.{get_or-set_same, get_or-set_other, get_or_default}
use Rattle.std.proofs.lemmas.Bool.{cases_eq}
use Rattle.update_api.specs.declared.links.Link.{Link}
use Rattle.update_api.specs.Links.{near_at}
use Rattle.update_api.specs.Near.{Near}
use Rattle.update_api.specs.Marks.{AreMarked}
use Rattle.update_api.specs.Scopes.{no_link}

-- the edges of the first k links are marked, and each other edge has what it had
pub record AreMarkedBelow (k : ℕ) (mark : Near → ℕ) (values old : List ℕ) (links : List Link) (new : List ℕ) : Type 0 where
  pub as_many : length new ≡ length old
  pub marks : (j : ℕ) → j < k → slice_index new (slice_index_or links j no_link).edge ≡ mark (near_at values old (slice_index_or links j no_link))
  pub others : (edge : ℕ) → ((j : ℕ) → j < k → (slice_index_or links j no_link).edge ≢ edge) → slice_index new edge ≡ slice_index old edge

module _ (mark : Near → ℕ) (values old : List ℕ) (links : List Link) (apart : AllPairs (λ one other. one.edge ≢ other.edge) links) (fit : All (λ link. link.edge < length old) links) where
  -- one link more
  pub marked_after : (k x : ℕ) (new : List ℕ) → k < length links → x ≡ mark (near_at values old (slice_index_or links k no_link)) →
      AreMarkedBelow k mark values old links new → AreMarkedBelow (k + 1) mark values old links (slice_set new (slice_index_or links k no_link).edge x)
  marked_after k x new inside is before =
      let edge = λ (j : ℕ). (slice_index_or links j no_link).edge in
      let there : edge k < length old = fit k no_link inside in
      let m = before.as_many in
      record {
        as_many = length-set new (edge k) x ∙ before.as_many;
        marks = λ j low. ⊎_elim
            (λ (same : j ≡ k). subst (λ i. slice_index (slice_set new (edge k) x) (edge i) ≡ mark (near_at values old (slice_index_or links i no_link))) (sym same)
            (get_or-set_same new (edge k) x 0 (omega arith) ∙ is))
            (λ (differs : j ≡ k → ⊥). let less : j < k = omega arith in
            get_or-set_other new (edge k) (edge j) x 0 (apart j k no_link less inside) ∙ before.marks j less)
            (cases_eq j k);
        others = λ e h. get_or-set_other new (edge k) e x 0 (λ same. h k (omega arith) (sym same)) ∙ before.others e (λ j low. h j (omega arith));
      }

-- the links that are there do not depend on what stands for one that is not
pub marked_all : (mark : Near → ℕ) (values old : List ℕ) (links : List Link) (new : List ℕ) → AreMarkedBelow (length links) mark values old links new → AreMarked mark values old links new
marked_all mark values old links new all =
    record {
      as_many = all.as_many;
      marks = λ j d inside. subst (λ link. slice_index new link.edge ≡ mark (near_at values old link)) (get_or_default links j no_link d inside) (all.marks j inside);
      others = λ e h. all.others e (λ j low. h j no_link low);
    }
