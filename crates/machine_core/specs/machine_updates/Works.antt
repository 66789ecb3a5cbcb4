-- Works: ready scopes that a machine gave out for their updates.
use Rattle.std.specs.Prelude.{◌≡◌, ◌≢◌, ℕ, true, false, Some, None, is_some, length}
use Rattle.std.specs.List.{All}
use Rattle.gl_base.specs.declared.numbers.Vertex.{Vertex}
use Rattle.gl_base.specs.declared.scopes.ScopeId.{ScopeId}
use Rattle.local_graph.specs.declared.works.Work.{Work}
use Rattle.partition.specs.machine_numbers.Views.{numbers_along, near_along, value_here}
use Rattle.partition.specs.machine_numbers.Settings.{IsRowOf}
use Rattle.machine_core.specs.declared.machine_parts.cores.Core.{Core}
use Rattle.machine_core.specs.machine_parts.Parts.{flight_at, is_ready, task_here, pending_here, links_at, row_at, sides_at, edge_here}
use Rattle.machine_core.specs.machine_parts.Settings.{Setting}

-- The work is out: its scope is ready for an ordinary update, its row is out, and its links and numbers are those that stand here.
pub record IsOut (m : Core) (w : Work) : Type 0 where
  pub flight : flight_at m.pipe w.scope ≡ Some w.vertex
  pub ready : is_ready m.pipe w.scope ≡ true
  pub task : task_here m.numbers w.vertex.0 ≡ true
  pub not_pending : pending_here m.numbers w.vertex.0 ≡ false
  pub out : links_at m.numbers.local w.vertex.0 ≡ None
  pub row : w.row.links.items ≡ row_at m.numbers.local w.vertex.0
  pub links : length w.row.links.items ≡ length (sides_at m.numbers.local w.vertex.0)
  pub value : w.value ≡ value_here m.numbers w.vertex.0
  pub numbers : w.row.numbers.items ≡ numbers_along (edge_here m.numbers) (sides_at m.numbers.local w.vertex.0)
  pub near : w.near.items ≡ near_along (value_here m.numbers) (sides_at m.numbers.local w.vertex.0)

-- The scope of v can be taken: it is ready for an ordinary update of v, and isn't taken yet.
pub record CanBeTaken (m : Core) (s : ScopeId) (v : Vertex) : Type 0 where
  pub flight : flight_at m.pipe s ≡ Some v
  pub ready : is_ready m.pipe s ≡ true
  pub task : task_here m.numbers v.0 ≡ true
  pub not_pending : pending_here m.numbers v.0 ≡ false
  pub row : is_some (links_at m.numbers.local v.0) ≡ true

-- the update of v changes no number that the work holds
pub record IsApartFrom (m : Core) (v : ℕ) (w : Work) : Type 0 where
  pub other : w.vertex.0 ≢ v
  pub near : All (λ s. s.other.0 ≢ v) (sides_at m.numbers.local w.vertex.0)
  pub edges : All (λ s. All (λ t. s.edge.0 ≢ t.edge.0) (sides_at m.numbers.local v)) (sides_at m.numbers.local w.vertex.0)

-- its row is that of its vertex in the setting's graph
abbrev pub HasItsRow : Setting → Core → Work → Type 0
HasItsRow st m w = IsRowOf st w.vertex.0 (sides_at m.numbers.local w.vertex.0) w.row.links.items
