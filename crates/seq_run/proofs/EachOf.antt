-- What holds of each element of a list, by places and by recursion.
use Rattle.std.proofs.Common.{zero, suc, List, [], ◌∷◌, All, arith}
use Rattle.std.specs.List.{AllByRecursion}

pub each_is : {X : Type 0} (P : X → Type 0) (xs : List X) → AllByRecursion P xs → All P xs
each_is P [] each k d within = absurd (omega arith)
each_is P (x ∷ xs) each zero d within = each.0
each_is P (x ∷ xs) each (suc k) d within = each_is P xs each.1 k d (omega arith)

pub all_is : {X : Type 0} (P : X → Type 0) (xs : List X) → All P xs → AllByRecursion P xs
all_is P [] all = tt
all_is P (x ∷ xs) all = (all 0 x (omega arith), all_is P xs (λ k d within. all (suc k) d (omega arith)))
