-- What a snapshot update asks of a machine, and what it leaves.
pub use Rattle.cluster_laws.specs.cluster_core.Actions.{MayMark}
pub use Rattle.cluster_laws.specs.cluster_core.Effects.{marked}
pub use Rattle.cluster_laws.specs.cluster_core.Settings.{IsSetting}
pub use Rattle.machine_core.specs.machine_parts.Rooms.{HasOnlyMadeRoom}
pub use Rattle.machine_core.specs.machine_turns.Turns.{HasEachRow}
use Rattle.std.specs.Prelude.{◌≡◌, ◌+◌, ℕ, true, false, None, Some, if◌then◌else◌, slice_set}
use Rattle.gl_base.specs.declared.numbers.Vertex.{Vertex}
use Rattle.gl_base.specs.declared.scopes.ScopeId.{ScopeId}
use Rattle.machine_core.specs.declared.machine_parts.cores.Core.{Core}
use Rattle.machine_core.specs.machine_parts.Parts.{TasksView, flight_at, place_at}
use Rattle.machine_core.specs.machine_parts.Settings.{Setting, IsPartOf}
use Rattle.coordinator.specs.snap_update.Holding.{last_of_edge, last_of_vertex, saves_edge}
use Rattle.coordinator.specs.snap_update.Snaps.{IsSavedOnce}
use Rattle.task_sets.specs.task_sched.Tasks.{is_flagged}
use Rattle.snapshot_machines.specs.marking.Keeping.{SnapView, part_of, with_snaps}

-- The scope might make its snapshot update. For each setting of which the machine is a part, the part, with what is kept for snapshots,
-- is what the law makes of it.
pub record HasMarked (old : Core) (kept : SnapView) (new : Core) (kept_now : SnapView) (s : ScopeId) : Type 0 where
  pub may : MayMark s (part_of old)
  pub home : s.home ≡ old.numbers.local.me
  pub after : (st : Setting) → IsSetting st → IsPartOf st old →
      with_snaps kept_now (part_of new) ≡ marked st s.home.0 s may.vertex (with_snaps kept (part_of old))

-- of what is kept the saved numbers alone have changed
abbrev pub HasSavedMore : SnapView → SnapView → Type 0
HasSavedMore old new = new ≡ record old { vertices = new.vertices; edges = new.edges; room = new.room }

-- the vertex at this place is neither admitted nor planned any more
pub record HasUnplanned (old new : TasksView) (place : ℕ) : Type 0 where
  pub plans : new.plans + (if is_flagged old.planned place then 1 else 0) ≡ old.plans
  pub planned : new.planned ≡ slice_set old.planned place false
  pub admitted : new.admitted ≡ slice_set old.admitted place false

-- the vertex of the scope is not
abbrev pub HasEndedPlan : Core → Core → ScopeId → Type 0
HasEndedPlan old new s = (v : Vertex) (place : ℕ) → flight_at old.pipe s ≡ Some v → place_at old.numbers.local v.0 ≡ Some place → HasUnplanned old.numbers.tasks new.numbers.tasks place

-- Where neither the vertex of the scope was saved nor an edge that its snapshot update saves, nothing is saved twice.
abbrev pub HasSavedOnce : Core → SnapView → SnapView → ScopeId → Type 0
HasSavedOnce m kept now s =
    (st : Setting) (v : Vertex) → IsSetting st → IsPartOf st m → flight_at m.pipe s ≡ Some v → IsSavedOnce kept → last_of_vertex kept.vertices v.0 ≡ None
    → ((e : ℕ) → saves_edge st (with_snaps kept (part_of m)) v.0 e ≡ true → last_of_edge kept.edges e ≡ None) → IsSavedOnce now
