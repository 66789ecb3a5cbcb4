-- Levels count the edges of a walk, and distances sum their weights, as breadth-first search and single-source
-- shortest paths of LDBC Graphalytics do.
use Rattle.std.specs.Prelude.{ℕ, List, length, sum_by}
use Rattle.gl_base.specs.Lists.{AreEach}
use Rattle.graph_core.specs.DataGraph.{DataGraph, size}
use Rattle.graph_core.specs.Walks.{IsLeast, IsLeastOrInf}

-- x is the number of edges of a shortest walk from a to v
abbrev pub IsLevel : DataGraph → ℕ → ℕ → ℕ → Type 0
IsLevel g a v x = IsLeast g length a v x

-- x is the sum of weights of a cheapest walk from a to v
abbrev pub IsDistance : DataGraph → ℕ → ℕ → ℕ → Type 0
IsDistance g a v x = IsLeast g (λ path. sum_by (λ e. e.weight) path) a v x

-- the level of v from a, and INF where no walk goes there
abbrev pub IsLevelOrInf : DataGraph → ℕ → ℕ → ℕ → Type 0
IsLevelOrInf g a v x = IsLeastOrInf g length a v x

-- the distance of v from a, and INF where no walk goes there
abbrev pub IsDistanceOrInf : DataGraph → ℕ → ℕ → ℕ → Type 0
IsDistanceOrInf g a v x = IsLeastOrInf g (λ path. sum_by (λ e. e.weight) path) a v x

-- each vertex has its level from a, and INF where no walk goes there
abbrev pub AreLevels : DataGraph → ℕ → List ℕ → Type 0
AreLevels g a numbers = AreEach (size g) (λ v x. IsLevelOrInf g a v x) numbers
