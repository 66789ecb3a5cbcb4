-- The fold of a list of numbers.
use Rattle.std.specs.Prelude.{ℕ, ◌+◌, ◌==◌, not, max, List, [], ◌∷◌, length, filter, sum}
use Rattle.gl_base.specs.declared.limits.TheConstants.{INF}
use Rattle.graph_text.specs.declared.sync_folds.folds.Fold.{Fold}

-- the numbers other than INF
abbrev pub reached_of : List ℕ → List ℕ
reached_of values = filter (λ x. not (x == INF)) values

-- the greatest number, and 0 where there are none
abbrev pub greatest_of : List ℕ → ℕ
greatest_of [] = 0
greatest_of (x ∷ xs) = max x (greatest_of xs)

-- how many numbers are reached, what they add up to, and the greatest of them
abbrev pub fold_of : List ℕ → Fold
fold_of values =
    record { reached = length (reached_of values); sum = sum (reached_of values); max = greatest_of (reached_of values) }

-- counts and sums are added, and the greater maximum is kept
abbrev pub merged : Fold → Fold → Fold
merged a b = record { reached = a.reached + b.reached; sum = a.sum + b.sum; max = max a.max b.max }
