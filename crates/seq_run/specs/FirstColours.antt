-- When a vertex got its colour.
use Rattle.std.specs.Prelude.{◌≡◌, ◌≢◌, ℕ, ◌<◌, ◌≤◌, IsTrue, List, ◌∷◌, ◌++◌}
use Rattle.std.specs.List.{list_any}
use Rattle.gl_base.specs.declared.entries.Entry.{Entry}
use Rattle.gl_base.specs.declared.entries.Entry.TheVariants.{Go}
use Rattle.gl_base.specs.declared.numbers.MachineNo.{MachineNo}
use Rattle.gl_base.specs.declared.numbers.Vertex.{Vertex}
use Rattle.graph_core.specs.DataGraph.{DataGraph, size}
use Rattle.graph_core.specs.Colourings.{joins}
use Rattle.update_api.specs.Updates.{update_of_colours}
use Rattle.seq_run.specs.Orders.{replay}

-- an edge joins the two
abbrev pub AreNeighbours : DataGraph → ℕ → ℕ → Type 0
AreNeighbours g u v = IsTrue (list_any (joins u v) g.edges)

-- k is the least number from 1 that no neighbour of v has
pub record IsLeastFreeColour (g : DataGraph) (colour : ℕ → ℕ) (v k : ℕ) : Type 0 where
  pub from_one : 1 ≤ k
  pub free : (u : ℕ) → u < size g → AreNeighbours g v u → colour u ≢ k
  pub least : (j : ℕ) → 1 ≤ j → j < k → (u : ℕ) × (u < size g) × AreNeighbours g v u × (colour u ≡ j)

-- v had no colour before one of the order's updates of it, and got k there, which was the least free one
pub record WasLeastFree (g : DataGraph) (order : List Entry) (v k : ℕ) : Type 0 where
  pub before : List Entry
  pub ticket : ℕ
  pub machine : MachineNo
  pub vertex : Vertex
  pub after : List Entry
  pub place : order ≡ before ++ Go machine vertex ticket ∷ after
  pub of_v : vertex.0 ≡ v
  pub none : (replay g update_of_colours before).vertex v ≡ 0
  pub least : IsLeastFreeColour g (replay g update_of_colours before).vertex v k
