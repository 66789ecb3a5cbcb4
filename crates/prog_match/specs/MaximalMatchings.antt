-- Maximal matchings.
use Rattle.std.specs.Prelude.{◌≡◌, ◌⊎◌, ℕ, ◌<◌, ◌↔◌, slice_get, slice_index, Some}
use Rattle.gl_base.specs.declared.limits.TheConstants.{INF}
use Rattle.graph_core.specs.DataGraph.{DataEdge, DataGraph, size}
use Rattle.seq_run.specs.FirstColours.{AreNeighbours}
use Rattle.seq_run.specs.States.{GraphState}
use Rattle.seq_run.specs.TightEdges.{IsMark}

-- the number of v is the identifier of u
abbrev pub HasMate : DataGraph → (ℕ → ℕ) → ℕ → ℕ → Type 0
HasMate g number v u = number v ≡ slice_index g.ids u

-- Vertices are matched in pairs along edges, which are marked, and no edge is left that could match two more.
pub record IsMaximalMatching (g : DataGraph) (s : GraphState) : Type 0 where
  -- each vertex is unmatched or has the identifier of a neighbour
  pub mates : (v : ℕ) → v < size g → (s.vertex v ≡ INF) ⊎ ((u : ℕ) × (u < size g) × AreNeighbours g v u × HasMate g s.vertex v u)
  -- a vertex has the identifier of another one exactly where that one has its own
  pub both_ways : (v u : ℕ) → v < size g → u < size g → (HasMate g s.vertex v u) ↔ (HasMate g s.vertex u v)
  -- an edge is 1 where its ends have each other's identifiers, and else 0; here `e` is edge number `k`
  pub edges : (k : ℕ) (e : DataEdge) → slice_get g.edges k ≡ Some e → IsMark (s.edge k) (HasMate g s.vertex e.from e.to × HasMate g s.vertex e.to e.from)
  -- no edge has two unmatched ends
  pub maximal : (k : ℕ) (e : DataEdge) → slice_get g.edges k ≡ Some e → s.vertex e.from ≡ INF → s.vertex e.to ≡ INF → ⊥
