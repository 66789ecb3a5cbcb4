-- The slots of a closed table, taken one after another.
use Rattle.std.proofs.Common.{◌≡◌, ℕ, zero, suc, ◌+◌, ◌<◌, ◌≤◌, Bool, true, false, List, [], ◌∷◌, ◌++◌, length, get_or, take, set, sym, refl, ap, ◌∙◌, get_or-set_same, get_or-set_other, arith}
use mathlib.Core.Logic.{dite}
use mathlib.Core.Option.{some, some-injective, some-ne-none}
use native.Mathlib.Decide.{ℕ_discrete}
use lib.ListN.{get_elem?}

module _ {A : Type 0} where
  pub take_next : (l : List A) (i : ℕ) (a : A) → get_elem? l i ≡ some a → take (i + 1) l ≡ take i l ++ a ∷ []
  take_next [] i a e = absurd (some-ne-none a (sym e))
  take_next (x ∷ xs) zero a e = ap (λ (y : A). y ∷ []) (some-injective x a e)
  take_next (x ∷ xs) (suc i) a e = ap (λ (n : ℕ). take n (x ∷ xs)) (let t : suc i + 1 ≡ suc (i + 1) = omega arith in t) ∙ ap (λ (ys : List A). x ∷ ys) (take_next xs i a e)

  pub take_whole : (l : List A) (n : ℕ) → n ≡ length l → take n l ≡ l
  take_whole [] zero e = refl
  take_whole [] (suc n) e = absurd (omega arith)
  take_whole (x ∷ xs) zero e = absurd (omega arith)
  take_whole (x ∷ xs) (suc n) e = ap (λ (ys : List A). x ∷ ys) (take_whole xs n (omega arith))

  pub nothing_left : (l : List A) → length l ≡ 0 → l ≡ []
  nothing_left [] e = refl
  nothing_left (x ∷ xs) e = absurd (omega arith)

-- a value is taken out at i, and what is left is full from i + 1 on
pub emptied : (fs gs : List Bool) (i long : ℕ) → gs ≡ set fs i false → i < length fs → ((k : ℕ) → i ≤ k → k < long → get_or fs k false ≡ true) → ((k : ℕ) → k < i → get_or fs k false ≡ false)
    → ((k : ℕ) → i + 1 ≤ k → k < long → get_or gs k false ≡ true) × ((k : ℕ) → k < i + 1 → get_or gs k false ≡ false)
emptied fs gs i long is here full bare = (
  (λ k low high. ap (λ (l : List Bool). get_or l k false) is ∙ (get_or-set_other fs i k false false (λ e. omega arith) ∙ full k (omega arith) high)),
  (λ k low. ap (λ (l : List Bool). get_or l k false) is ∙ dite (ℕ_discrete k i)
      (λ (e : k ≡ i). ap (λ (n : ℕ). get_or (set fs i false) n false) e ∙ get_or-set_same fs i false false here)
      (λ ne. get_or-set_other fs i k false false ne ∙ bare k (omega arith))),
)
