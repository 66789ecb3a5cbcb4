-- The least unmatched neighbour, found one neighbour after another.
use Rattle.std.proofs.Common.{◌≡◌, ℕ, suc, ◌+◌, ◌<◌, ◌==◌, min, true, false, if◌then◌else◌, List, [], ◌∷◌, length, map, drop, slice_index, slice_index_or, refl, ⊎_elim, arith, add-one, drop-cons}
use Rattle.std.specs.List.{filter}
use Rattle.std.proofs.lemmas.Bool.{cases_Bool}
use Rattle.gl_base.specs.declared.limits.TheConstants.{INF}
use Rattle.update_api.specs.Updates.{least}
use Rattle.full_scope.specs.declared.links.FullLink.{FullLink}
use Rattle.full_scope.specs.FullLinks.{no_full_link, neighbour_along, neighbours_from}
use Rattle.full_scope.specs.FullUpdates.{Neighbour}
use Rattle.prog_match.specs.Pairs.{is_unmatched}

least-min : (a b : ℕ) (xs : List ℕ) → least (min a b) xs ≡ min b (least a xs)
least-min a b [] = omega arith
least-min a b (x ∷ xs) = let rest = least-min a b xs in omega arith

-- the least of a and of the unmatched ones' identifiers
abbrev pub least_from : ℕ → List Neighbour → ℕ
least_from a neighbours = least a (map (λ n. n.id) (filter is_unmatched neighbours))

next : (a : ℕ) (n : Neighbour) (ns : List Neighbour) → least_from (if n.near.number == INF then min a n.id else a) ns ≡ least_from a (n ∷ ns)
next a n ns = ⊎_elim
    (λ (free : (n.near.number == INF) ≡ true). rw free (least-min a n.id (map (λ m. m.id) (filter is_unmatched ns))))
    (λ (taken : (n.near.number == INF) ≡ false). rw taken refl)
    (cases_Bool (n.near.number == INF))

-- one neighbour more
pub least_after : (count : ℕ) (numbers : List ℕ) (links : List FullLink) (a i : ℕ) → i < length links →
    least_from (if slice_index numbers i == INF then min a (slice_index_or links i no_full_link).id else a) (neighbours_from count (i + 1) numbers (drop (i + 1) links))
    ≡ least_from a (neighbours_from count i numbers (drop i links))
least_after count numbers links a i inside =
    rw (add-one, drop-cons links i no_full_link) (next a (neighbour_along (slice_index_or links i no_full_link) (slice_index numbers i) (slice_index numbers (count + i))) (neighbours_from count (suc i) numbers (drop (suc i) links)))
