-- What the laws of data graphs speak of.
use Rattle.std.specs.Prelude.{◌≡◌, ◌⊎◌, ℕ, true, false, not, [], ◌∷◌, slice_get, Some}
use Rattle.graph_core.specs.DataGraph.{DataEdge, DataGraph}
use Rattle.graph_core.specs.Halves.{DataHalf}

-- the half-edge is one of its edge at v: where the edge begins it leads out, where it ends it leads in, and
-- where it has no direction it does both
pub record IsHalfAt (g : DataGraph) (v : ℕ) (h : DataHalf) (e : DataEdge) : Type 0 where
  pub edge : slice_get g.edges h.edge ≡ Some e
  pub weight : h.weight ≡ e.weight
  pub side : ((e.from ≡ v) × (e.to ≡ h.other) × (h.out ≡ true) × (h.into ≡ not g.directed)) ⊎ ((e.to ≡ v) × (e.from ≡ h.other) × (h.out ≡ not g.directed) × (h.into ≡ true))

-- four vertices, and a path of the first three without direction
abbrev pub path_of_three : DataGraph
path_of_three =
    record {
      ids = 1 ∷ 2 ∷ 3 ∷ 4 ∷ [];
      edges = record { from = 0; to = 1; weight = 1 } ∷ record { from = 1; to = 2; weight = 1 } ∷ [];
      directed = false;
    }

-- three vertices, of which the first and the last lead to the second
abbrev pub two_into_one : DataGraph
two_into_one =
    record {
      ids = 1 ∷ 2 ∷ 3 ∷ [];
      edges = record { from = 0; to = 1; weight = 1 } ∷ record { from = 2; to = 1; weight = 1 } ∷ [];
      directed = true;
    }
