-- A list in three pieces, of which the middle one is a single number.
use Rattle.std.proofs.Common.{◌≡◌, ℕ, ◌-◌, List, [], ◌∷◌, ◌++◌, length, slice_index, slice_set, refl, sym, ap, ◌∙◌, arith}
use Rattle.std.proofs.lemmas.List.{set-append_left, set-append_right}

-- what is written into the middle one is written into the list
pub written : (low one high : List ℕ) (v x : ℕ) → length low ≡ v → length one ≡ 1 → low ++ (slice_set one 0 x ++ high) ≡ slice_set (low ++ (one ++ high)) v x
written low one high v x there single =
    let none : v - v ≡ 0 = omega arith in
    sym (set-append_right low (one ++ high) v v x there (omega arith) ∙ ap (λ k. low ++ slice_set (one ++ high) k x) none
    ∙ ap (λ ys. low ++ ys) (set-append_left one high 0 x (omega arith)))

-- the middle piece is its one number
pub one_number : (one : List ℕ) → length one ≡ 1 → one ≡ slice_index one 0 ∷ []
one_number [] single = cc
one_number (x ∷ []) single = refl
one_number (x ∷ y ∷ ys) single = absurd (omega arith)
