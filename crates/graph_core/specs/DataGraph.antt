-- The data graph: identifiers, edges between vertex numbers, and whether edges have a direction.
use Rattle.std.specs.Prelude.{◌≡◌, ◌≢◌, ◌⊎◌, ℕ, ◌^◌, ◌<◌, ◌≤◌, Bool, false, List, length, All, AllPairs}
use Rattle.gl_base.specs.Lists.{Ascends}
use Rattle.gl_base.specs.declared.limits.TheConstants.{MAX_ID, MAX_VERTICES, MAX_EDGES}

-- An edge leads from one vertex to another.
pub record DataEdge : Type 0 where
  pub from : ℕ
  pub to : ℕ
  pub weight : ℕ

-- Vertex v has the v-th identifier, and edge e is the e-th edge.
pub record DataGraph : Type 0 where
  pub ids : List ℕ
  pub edges : List DataEdge
  pub directed : Bool

-- how many vertices there are
abbrev pub size : DataGraph → ℕ
size g = length g.ids

-- the order of edges: by `from`, and then by `to`
abbrev pub IsBefore : DataEdge → DataEdge → Type 0
IsBefore e f = (e.from < f.from) ⊎ ((e.from ≡ f.from) × (e.to < f.to))

-- the edge joins two different vertices below n; where edges have no direction, `from` is the lower one
pub record IsEdge (n : ℕ) (directed : Bool) (e : DataEdge) : Type 0 where
  pub from : e.from < n
  pub to : e.to < n
  pub apart : e.from ≢ e.to
  pub lower : directed ≡ false → e.from < e.to
  pub weight : e.weight < 2 ^ 32

-- Identifiers and edges ascend strictly, so none stands twice.
pub record IsDataGraph (g : DataGraph) : Type 0 where
  pub few : size g ≤ MAX_VERTICES
  pub few_edges : length g.edges ≤ MAX_EDGES
  pub ascending : Ascends g.ids
  pub ids : All (λ id. id ≤ MAX_ID) g.ids
  pub edges : All (IsEdge (size g) g.directed) g.edges
  pub edges_ascending : AllPairs IsBefore g.edges
