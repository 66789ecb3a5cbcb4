-- What an admission promises, for each setting of which the machine is a part.
pub use Rattle.cluster_laws.specs.cluster_core.Actions.{MayAdmit}
pub use Rattle.cluster_laws.specs.cluster_core.Effects.{admitted}
pub use Rattle.machine_core.specs.machine_parts.Order.{IsOrderly, KnowsPlaces}
pub use Rattle.machine_core.specs.machine_parts.Parts.{part_of, pending_here}
pub use Rattle.machine_core.specs.machine_parts.Settings.{IsPartOf, SameSettings}
pub use Rattle.scope_locks.specs.scope_pipe.Pipes.{come, next_id}
pub use Rattle.task_sets.specs.task_sched.Tasks.{TasksView, is_flagged, is_open, IsNextPick}
use Rattle.std.specs.Prelude.{◌≡◌, ◌⊎◌, ℕ, ◌+◌, ◌<◌, true, false, Some, if◌then◌else◌, drop, length, slice_get, slice_set}
use Rattle.gl_base.specs.declared.numbers.Vertex.{Vertex}
use Rattle.cluster_laws.specs.cluster_core.Settings.{Setting}
use Rattle.machine_core.specs.declared.machine_parts.cores.Core.{Core}
use Rattle.task_sets.specs.declared.task_sched.task_sets.Pick.{Pick}

-- a scope of v may be admitted
abbrev pub MayAdmitVertex : Core → ℕ → Type 0
MayAdmitVertex m v = (st : Setting) → IsPartOf st m → MayAdmit st m.numbers.local.me.0 v (part_of m)

-- What the tasks admit next, the vertex at that place, and that a scope of it may be admitted: it is pending, and then for a snapshot
-- update, or the window has room.
pub record CanAdmitPick (m : Core) : Type 0 where
  pub pick : Pick
  pub next : IsNextPick m.numbers.tasks (Some pick)
  pub vertex : Vertex
  pub place : slice_get m.by_place.items pick.vertex.0 ≡ Some vertex
  pub may : MayAdmitVertex m vertex.0
  pub kind : pending_here m.numbers vertex.0 ≡ pick.snapshot
  pub room : (pending_here m.numbers vertex.0 ≡ true) ⊎ (is_open m.numbers.tasks ≡ true)

-- of no vertex that is pending, or any where the window has room, a scope may be admitted
abbrev pub MayAdmitNone : Core → Type 0
MayAdmitNone m =
    (st : Setting) → IsPartOf st m → (v : ℕ) → (pending_here m.numbers v ≡ true) ⊎ (is_open m.numbers.tasks ≡ true) → MayAdmit st m.numbers.local.me.0 v (part_of m) → ⊥

-- the vertex at the place that is picked is pending, or a task where the window has room, and not admitted
pub record CanTake (t : TasksView) (pick : Pick) : Type 0 where
  pub within : pick.vertex.0 < length t.task
  pub free : is_flagged t.admitted pick.vertex.0 ≡ false
  pub due : (is_flagged t.pending pick.vertex.0 ≡ true) ⊎ (is_flagged t.task pick.vertex.0 ≡ true)
  pub kind : is_flagged t.pending pick.vertex.0 ≡ pick.snapshot
  pub room : (is_flagged t.pending pick.vertex.0 ≡ true) ⊎ (is_open t ≡ true)

-- the pick is admitted in the tasks
abbrev pub with_pick : TasksView → Pick → TasksView
with_pick t pick =
    if pick.snapshot
    then record t { admitted = slice_set t.admitted pick.vertex.0 true; asked = drop 1 t.asked }
    else record t { admitted = slice_set t.admitted pick.vertex.0 true; planned = slice_set t.planned pick.vertex.0 true; plans = t.plans + 1 }

-- what the tasks pick was admitted, and all is as the cluster has it then
pub record HasAdmittedPick (old new : Core) : Type 0 where
  pub can : CanAdmitPick old
  pub numbers : new.numbers ≡ record old.numbers { tasks = with_pick old.numbers.tasks can.pick }
  pub admitted : (st : Setting) → IsPartOf st old → part_of new ≡ admitted st old.numbers.local.me.0 can.vertex.0 (part_of old)

-- nothing is planned that isn't admitted
abbrev pub AreFreeUnplanned : TasksView → Type 0
AreFreeUnplanned t = (place : ℕ) → is_flagged t.admitted place ≡ false → is_flagged t.planned place ≡ false

-- the same vertices are admitted and planned, and so many are
pub record HaveSamePlans (old new : TasksView) : Type 0 where
  pub admitted : (place : ℕ) → is_flagged new.admitted place ≡ is_flagged old.admitted place
  pub planned : (place : ℕ) → is_flagged new.planned place ≡ is_flagged old.planned place
  pub plans : new.plans ≡ old.plans

-- where nothing is planned that isn't admitted
abbrev pub KeepsPlans : Core → Core → Type 0
KeepsPlans old new = AreFreeUnplanned old.numbers.tasks → HaveSamePlans old.numbers.tasks new.numbers.tasks
