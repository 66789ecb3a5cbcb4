-- What stays the same through a run.
use Rattle.std.specs.List.{list_any}
use Rattle.std.specs.Prelude.{Bool, slice_index_or, ℕ, ◌<◌, ◌==◌, ◌||◌}
use Rattle.graph_core.specs.Colourings.{joins}
use Rattle.graph_core.specs.DataGraph.{DataEdge, DataGraph, IsDataGraph, size}
use Rattle.seq_run.specs.States.{GraphState}
use Rattle.update_api.specs.Updates.{Update}

-- How neighbours are kept from running at once: each scope locks the vertices that it reads, or the coordinator leads the
-- machines through steps, and in a step only vertices of one colour run.
pub data Engine : Type 0 where
  Locking : Engine
  -- the colour of each vertex, and the greatest colour
  Chromatic : (colour : ℕ → ℕ) → (colours : ℕ) → Engine

-- The graph, what an update does, which machine owns each vertex, how many machines there are, how many scopes of one
-- machine may be in flight, and the numbers that the run began with.
pub record Setting : Type 0 where
  pub graph : DataGraph
  pub program : Update
  pub owner : ℕ → ℕ
  pub machines : ℕ
  pub pipeline : ℕ
  pub engine : Engine
  -- whether snapshots are taken, and how many updates of one machine may be outside the last one that was acknowledged
  pub stored : Bool
  pub window : ℕ
  pub start : GraphState
  -- the number of the snapshot that the run began with
  pub base : ℕ

-- The graph is one, and each vertex has an owner.
pub record IsSetting (st : Setting) : Type 0 where
  pub graph : IsDataGraph st.graph
  pub owner : (v : ℕ) → v < size st.graph → st.owner v < st.machines

-- an edge joins the two vertices
abbrev pub is_near : Setting → ℕ → ℕ → Bool
is_near st v u = list_any (joins v u) st.graph.edges

-- the scope of v is v and its neighbours
abbrev pub is_in_scope : Setting → ℕ → ℕ → Bool
is_in_scope st v x = (x == v) || is_near st v x

-- edge e, where there is one
abbrev pub nth_edge : Setting → ℕ → DataEdge
nth_edge st e = slice_index_or st.graph.edges e (record { from = 0; to = 0; weight = 0 })
