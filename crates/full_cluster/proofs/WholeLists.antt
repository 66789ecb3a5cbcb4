-- A list that is lent whole, and what is left of it.
use Rattle.std.proofs.Common.{◌≡◌, ◌∙◌, ◌++◌, ℕ, List, drop, length, take, ap}
use Rattle.std.proofs.Math.Seq.{take-append_seam}

-- a list that is written whole is what was written
pub back : {A : Type 0} (new ys : List A) (n : ℕ) → n ≡ length new → take n (new ++ ys) ≡ new
back new ys n is = ap (λ k. take k (new ++ ys)) is ∙ take-append_seam new ys

-- the list that a Vec of n elements has, where these were written to it
abbrev pub lent_back : {A : Type 0} → List A → List A → ℕ → List A
lent_back new old n = take n (new ++ drop (length new) old)
