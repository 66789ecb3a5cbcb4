-- Walks in a data graph, and the cheapest of them.
use Rattle.std.specs.Prelude.{◌≡◌, ◌⊎◌, ℕ, ◌<◌, ◌≤◌, Bool, false, List, [], ◌∷◌, Contains}
use Rattle.gl_base.specs.declared.limits.TheConstants.{INF}
use Rattle.graph_core.specs.DataGraph.{DataEdge, DataGraph}

-- the edge leads from a to b: along its direction, or either way where edges have none
abbrev pub Leads : Bool → DataEdge → ℕ → ℕ → Type 0
Leads directed e a b = ((e.from ≡ a) × (e.to ≡ b)) ⊎ ((directed ≡ false) × (e.from ≡ b) × (e.to ≡ a))

-- the edges of the path lead from a to b, each from the vertex where the one before arrived
abbrev pub IsWalk : List DataEdge → Bool → ℕ → ℕ → List DataEdge → Type 0
IsWalk edges directed a b [] = a ≡ b
IsWalk edges directed a b (e ∷ path) = (c : ℕ) × Contains edges e × Leads directed e a c × IsWalk edges directed c b path

-- the path is a walk from a to b in the graph
abbrev pub Walk : DataGraph → ℕ → ℕ → List DataEdge → Type 0
Walk g a b path = IsWalk g.edges g.directed a b path

-- a walk from a to b costs x, and none costs less
pub record IsLeast (g : DataGraph) (cost : List DataEdge → ℕ) (a b x : ℕ) : Type 0 where
  pub reached : (path : List DataEdge) × Walk g a b path × (cost path ≡ x)
  pub least : (path : List DataEdge) → Walk g a b path → x ≤ cost path

-- no walk goes from a to b
abbrev pub NoWalk : DataGraph → ℕ → ℕ → Type 0
NoWalk g a b = (path : List DataEdge) → Walk g a b path → ⊥

-- the least cost where there is a walk, and INF where there is none
abbrev pub IsLeastOrInf : DataGraph → (List DataEdge → ℕ) → ℕ → ℕ → ℕ → Type 0
IsLeastOrInf g cost a b x = ((x < INF) × IsLeast g cost a b x) ⊎ ((x ≡ INF) × NoWalk g a b)
