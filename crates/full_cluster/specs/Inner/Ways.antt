-- Where a scope takes its locks.
use Rattle.std.specs.List.{filter, list_any, range_with_len}
use Rattle.std.specs.Prelude.{◌==◌, ◌&&◌, ◌||◌, Bool, List, ℕ}
use Rattle.graph_core.specs.Colourings.{joins}
use Rattle.graph_core.specs.DataGraph.{DataGraph, size}

-- those of k, k + 1, .. (so many numbers) that pass, ascending
abbrev pub passing : (ℕ → Bool) → ℕ → ℕ → List ℕ
passing test k many = filter test (range_with_len k many)

-- an edge joins the two
abbrev pub is_joined : DataGraph → ℕ → ℕ → Bool
is_joined g v x = list_any (joins v x) g.edges

-- machine a owns x, which is v or a neighbour
abbrev pub is_own_of : DataGraph → (ℕ → ℕ) → ℕ → ℕ → ℕ → Bool
is_own_of g owner v a x = (x == v || is_joined g v x) && owner x == a

-- machine a owns v or a neighbour
abbrev pub has_own_of : DataGraph → (ℕ → ℕ) → ℕ → ℕ → Bool
has_own_of g owner v a = list_any (is_own_of g owner v a) (range_with_len 0 (size g))
