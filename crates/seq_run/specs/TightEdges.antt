-- Edges that lie on a cheapest walk.
use Rattle.std.specs.Prelude.{◌≡◌, ◌⊎◌, ℕ, ◌+◌, ◌<◌, Bool, false}
use Rattle.gl_base.specs.declared.limits.TheConstants.{INF}
use Rattle.graph_core.specs.DataGraph.{DataEdge}

-- the weight is what the numbers of the ends differ by: along the edge's direction, or one way at least where it has none
abbrev pub IsTight : Bool → (ℕ → ℕ) → DataEdge → Type 0
IsTight directed number e =
    ((number e.from < INF) × (number e.from + e.weight ≡ number e.to))
    ⊎ ((directed ≡ false) × (number e.to < INF) × (number e.to + e.weight ≡ number e.from))

-- 1 where P holds, and 0 elsewhere
abbrev pub IsMark : ℕ → Type 0 → Type 0
IsMark mark P = ((mark ≡ 1) × P) ⊎ ((mark ≡ 0) × (¬ P))
