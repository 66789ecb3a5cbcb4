-- The vertex that is to be updated at once.
pub use Rattle.partition.specs.machine_numbers.Views.{is_flagged}
pub use Rattle.machine_core.specs.machine_parts.Parts.{place_at, parts_at, part_at, is_owned, holder_at, queue_at, flight_count}
pub use Rattle.task_sets.specs.task_sched.Tasks.{is_free, is_open}
pub use Rattle.scope_locks.specs.vertex_locks.Locks.{IsFreeLock}
use Rattle.std.specs.Prelude.{◌≡◌, ◌<◌, Option, Some, true, false, List, length}
use Rattle.std.specs.List.{All}
use Rattle.gl_base.specs.declared.numbers.Vertex.{Vertex}
use Rattle.scope_locks.specs.vertex_locks.Locks.{LockView}
use Rattle.partition.specs.declared.machine_numbers.keeping.Numbers.{Numbers}
use Rattle.machine_core.specs.declared.machine_parts.cores.Core.{Core}
use Rattle.machine_core.specs.machine_at_once.Picks.{PicksNext, is_own}
use Rattle.machine_core.specs.declared.machine_at_once.finding.Found.{Found}

-- nobody claims a lock of these vertices
abbrev pub AreFreeLocks : List (Option LockView) → List Vertex → Type 0
AreFreeLocks locks part = All (λ x. IsFreeLock (holder_at locks x.0) (queue_at locks x.0)) part

-- the scope of the own vertex has this machine alone, and nobody claims its locks
pub record IsFreeScope (m : Core) (v : Vertex) : Type 0 where
  pub alone : length (parts_at m.numbers.local v.0) ≡ 1
  pub free : AreFreeLocks m.locks (part_at m.numbers.local v.0)

-- The own vertex v at this place is a task, not pending and not admitted, and the window has room.
pub record WaitsAt (n : Numbers) (place v : Vertex) : Type 0 where
  pub at : place_at n.local v.0 ≡ Some place.0
  pub own : is_own n.local v.0 ≡ true
  pub within : place.0 < length n.tasks.task
  pub among : place.0 < length n.tasks.admitted
  pub free : is_free n.tasks.task n.tasks.admitted place.0 ≡ true
  pub quiet : is_flagged n.tasks.pending place.0 ≡ false
  pub opened : is_open n.tasks ≡ true

-- it is what the tasks pick, and may be updated at once
pub record IsFoundPick (m : Core) (f : Found) : Type 0 where
  pub picked : PicksNext m f.vertex
  pub waits : WaitsAt m.numbers f.place f.vertex
  pub few : flight_count m.pipe < m.terms.pipeline
  pub scope : IsFreeScope m f.vertex
