-- The least of a list, found one number after another.
use Rattle.std.proofs.Common.{◌≡◌, ℕ, suc, ◌+◌, ◌<◌, min, Bool, true, false, if◌then◌else◌, List, [], ◌∷◌, length, map, drop, slice_index_or, refl, ⊎_elim, arith, add-one, drop-cons}
use Rattle.std.specs.List.{filter}
use Rattle.std.proofs.lemmas.Bool.{cases_Bool}
use Rattle.update_api.specs.Near.{Near}
use Rattle.update_api.specs.Updates.{least}

least-min : (a b : ℕ) (xs : List ℕ) → least (min a b) xs ≡ min b (least a xs)
least-min a b [] = omega arith
least-min a b (x ∷ xs) = let rest = least-min a b xs in omega arith

module _ {L : Type 0} (seen : L → Near) (takes : Near → Bool) (offer : Near → ℕ) where
  -- the least of a, and of what is offered along these links
  abbrev pub least_offered : ℕ → List L → ℕ
  least_offered a links = least a (map offer (filter takes (map seen links)))

  -- what is offered along one link lowers a, where it is taken
  abbrev pub lowered : ℕ → Near → ℕ
  lowered a near = if takes near then min a (offer near) else a

  next : (a : ℕ) (link : L) (links : List L) → least_offered (lowered a (seen link)) links ≡ least_offered a (link ∷ links)
  next a link links = ⊎_elim
      (λ (taken : takes (seen link) ≡ true). rw taken (least-min a (offer (seen link)) (map offer (filter takes (map seen links)))))
      (λ (left : takes (seen link) ≡ false). rw left refl)
      (cases_Bool (takes (seen link)))

  -- one link more
  pub least_after : (a : ℕ) (links : List L) (i : ℕ) (other : L) → i < length links →
      least_offered (lowered a (seen (slice_index_or links i other))) (drop (i + 1) links) ≡ least_offered a (drop i links)
  least_after a links i other inside = rw (add-one, drop-cons links i other) (next a (slice_index_or links i other) (drop (suc i) links))

  -- the same, where each one is taken
  pub least_of_all_after : (a : ℕ) (links : List L) (i : ℕ) (other : L) → i < length links →
      least (min a (offer (seen (slice_index_or links i other)))) (map offer (map seen (drop (i + 1) links))) ≡ least a (map offer (map seen (drop i links)))
  least_of_all_after a links i other inside =
      rw (add-one, drop-cons links i other) (least-min a (offer (seen (slice_index_or links i other))) (map offer (map seen (drop (suc i) links))))
