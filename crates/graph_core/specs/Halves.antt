-- What a vertex sees of its edges.
use Rattle.std.specs.Prelude.{ℕ, suc, Bool, true, not, if◌then◌else◌, ◌==◌, List, [], ◌∷◌, ◌++◌}
use Rattle.graph_core.specs.DataGraph.{DataEdge, DataGraph}

-- An edge at a vertex: its number, its other end and weight, and whether it leads out of the vertex and into it.
pub record DataHalf : Type 0 where
  pub edge : ℕ
  pub other : ℕ
  pub weight : ℕ
  pub out : Bool
  pub into : Bool

-- edge k, where it is one at v
abbrev pub half_at : Bool → ℕ → ℕ → DataEdge → List DataHalf
half_at directed v k e =
    if e.from == v
    then record { edge = k; other = e.to; weight = e.weight; out = true; into = not directed } ∷ []
    else (if e.to == v then record { edge = k; other = e.from; weight = e.weight; out = not directed; into = true } ∷ [] else [])

-- the edges at v among these, which are numbered from k on
abbrev pub halves_from : Bool → ℕ → ℕ → List DataEdge → List DataHalf
halves_from directed v k [] = []
halves_from directed v k (e ∷ edges) = half_at directed v k e ++ halves_from directed v (suc k) edges

-- the edges at v, ascending
abbrev pub halves_of : DataGraph → ℕ → List DataHalf
halves_of g v = halves_from g.directed v 0 g.edges
