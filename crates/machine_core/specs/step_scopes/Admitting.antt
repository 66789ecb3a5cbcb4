-- What an admission in a step promises.
pub use Rattle.machine_core.specs.machine_parts.Order.{IsOrderly, KnowsPlaces}
pub use Rattle.machine_core.specs.machine_parts.Parts.{part_of, is_own, pending_here, task_here}
pub use Rattle.machine_core.specs.machine_parts.Settings.{SameSettings}
pub use Rattle.machine_core.specs.machine_scopes.Admitting.{CanTake, with_pick}
pub use Rattle.scope_locks.specs.scope_pipe.Pipes.{flight_count, next_id}
use Rattle.std.specs.Prelude.{◌≡◌, ◌≢◌, ◌⊎◌, ℕ, ◌<◌, Bool, true, false, Some, List, ◌∷◌, slice_get, IsPermutation}
use Rattle.gl_base.specs.declared.numbers.Vertex.{Vertex}
use Rattle.gl_base.specs.declared.scopes.ScopeId.{ScopeId}
use Rattle.cluster_laws.specs.cluster_core.Effects.{admitted, in_flight, next_scope}
use Rattle.cluster_laws.specs.cluster_core.Parts.{Part}
use Rattle.cluster_laws.specs.cluster_core.Scopes.{set_for}
use Rattle.cluster_laws.specs.cluster_core.Settings.{Chromatic, Setting}
use Rattle.partition.specs.machine_numbers.Views.{TasksView}
use Rattle.machine_core.specs.declared.machine_parts.cores.Core.{Core}

-- a serial is left for one more scope, and fewer are in flight than may be
pub record HasPlaceInFlight (m : Core) : Type 0 where
  pub serial : m.pipe.serial < 18446744073709551615
  pub flights : flight_count m.pipe < m.terms.pipeline

-- where this is for its snapshot update, v alone has left the line, and else nobody has
abbrev pub HasLeftFor : Bool → List Vertex → Vertex → List Vertex → Type 0
HasLeftFor true old v new = IsPermutation old (v ∷ new)
HasLeftFor false old v new = new ≡ old

-- the vertex at this place is admitted in the tasks, and stands in no line there any more
pub record IsAdmittedThere (old new : TasksView) (place : Vertex) (snapshot : Bool) : Type 0 where
  pub tasks : new ≡ record (with_pick old (record { vertex = place; snapshot = snapshot })) { asked = new.asked }
  pub asked : HasLeftFor snapshot old.asked place new.asked

-- the next scope of machine a, with this centre, is in flight and ready
abbrev pub in_flight_ready : ℕ → ℕ → Part → Part
in_flight_ready a v part = record (in_flight a v part) { ready = set_for part.ready (next_scope a part) true }

-- The vertex at this place is an own one, pending or a task as was asked, and no scope of it is in flight.
pub record IsDueThere (m : Core) (place : Vertex) (snapshot : Bool) (v : Vertex) : Type 0 where
  pub at : slice_get m.by_place.items place.0 ≡ Some v
  pub own : is_own m.numbers.local v.0 ≡ true
  pub kind : pending_here m.numbers v.0 ≡ snapshot
  pub due : (pending_here m.numbers v.0 ≡ true) ⊎ (task_here m.numbers v.0 ≡ true)
  pub fresh : (s : ScopeId) → (part_of m).flight s ≢ Some v.0

-- A scope of it was admitted and is ready; that is what the law makes of it in each setting that goes by colours. Of the numbers only
-- the tasks have changed.
pub record HasAdmittedInStep (old new : Core) (place : Vertex) (snapshot : Bool) : Type 0 where
  pub vertex : Vertex
  pub due : IsDueThere old place snapshot vertex
  pub numbers : new.numbers ≡ record old.numbers { tasks = new.numbers.tasks }
  pub tasks : IsAdmittedThere old.numbers.tasks new.numbers.tasks place snapshot
  pub part : part_of new ≡ in_flight_ready old.numbers.local.me.0 vertex.0 (part_of old)
  pub admitted : (st : Setting) (colour : ℕ → ℕ) (colours : ℕ) → st.engine ≡ Chromatic colour colours → part_of new ≡ admitted st old.numbers.local.me.0 vertex.0 (part_of old)
