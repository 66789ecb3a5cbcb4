-- First differences, place by place.
use Rattle.std.proofs.Common.{◌≡◌, ◌≢◌, ℕ, ◌+◌, ◌<◌, ◌≤◌, ◌⊎◌, inl, inr, List, [], ◌∷◌, length, get_or, drop, Some, None, refl, arith, length-drop}
use Rattle.std.specs.Prelude.{min}
use Rattle.std.proofs.lemmas.Bool.{eq-eqb, ne_eqb, cases_lt}
use Rattle.std.proofs.lemmas.List.{drop_more}
use Rattle.graph_atoms.specs.atom_gather.Files.{difference_from}

-- two bytes that are one
pub difference_next : (i : ℕ) (xs ys : List ℕ) → i < length xs → i < length ys → get_or xs i 0 ≡ get_or ys i 0 → difference_from (i + 1) (drop (i + 1) xs) (drop (i + 1) ys) ≡ difference_from i (drop i xs) (drop i ys)
difference_next i xs ys in_xs in_ys same =
    rw (drop_more xs i 0 in_xs, drop_more ys i 0 in_ys, eq-eqb (get_or xs i 0) (get_or ys i 0) same) refl

-- and two that are not
pub difference_here : (i : ℕ) (xs ys : List ℕ) → i < length xs → i < length ys → get_or xs i 0 ≢ get_or ys i 0 → difference_from i (drop i xs) (drop i ys) ≡ Some i
difference_here i xs ys in_xs in_ys apart =
    rw (drop_more xs i 0 in_xs, drop_more ys i 0 in_ys, ne_eqb (get_or xs i 0) (get_or ys i 0) apart) refl

-- where one list ends and the other does not, they differ there
ends : (n : ℕ) (xs ys : List ℕ) → length xs ≢ length ys → (length xs ≡ 0) ⊎ (length ys ≡ 0) → difference_from n xs ys ≡ Some n
ends n [] [] apart end = absurd (apart refl)
ends n [] (y ∷ ys) apart end = refl
ends n (x ∷ xs) [] apart end = refl
ends n (x ∷ xs) (y ∷ ys) apart (inl end) = absurd (omega (arith, end))
ends n (x ∷ xs) (y ∷ ys) apart (inr end) = absurd (omega (arith, end))

pub difference_end : (i : ℕ) (xs ys : List ℕ) → i ≡ min (length xs) (length ys) → length xs ≢ length ys → difference_from i (drop i xs) (drop i ys) ≡ Some i
difference_end i xs ys is apart =
    ends i (drop i xs) (drop i ys) (λ e. omega (arith, e, length-drop i xs, length-drop i ys, is, apart)) (either (cases_lt (length xs) (length ys)))
  where
    either : (length xs < length ys) ⊎ (length ys ≤ length xs) → (length (drop i xs) ≡ 0) ⊎ (length (drop i ys) ≡ 0)
    either (inl l) = inl (omega (arith, l, is, length-drop i xs))
    either (inr l) = inr (omega (arith, l, is, length-drop i ys))

nothing : (xs : List ℕ) → length xs ≡ 0 → xs ≡ []
nothing [] h = refl
nothing (x ∷ xs) h = absurd (omega (arith, h))

pub difference_none : (i : ℕ) (xs ys : List ℕ) → i ≡ min (length xs) (length ys) → length xs ≡ length ys → difference_from i (drop i xs) (drop i ys) ≡ None
difference_none i xs ys is same =
    rw (nothing (drop i xs) (omega (arith, length-drop i xs, is, same)), nothing (drop i ys) (omega (arith, length-drop i ys, is, same))) refl
