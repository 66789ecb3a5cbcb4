-- What an admission in a step promises of a machine that takes part in snapshots, for each setting of which it is a part.
pub use Rattle.cluster_laws.specs.cluster_core.Actions.{MayAdmit}
pub use Rattle.cluster_laws.specs.cluster_core.Effects.{admitted}
pub use Rattle.machine_core.specs.step_scopes.Admitting.{IsAdmittedThere, next_id}
pub use Rattle.task_sets.specs.task_sched.Tasks.{is_open}
use Rattle.std.specs.Prelude.{◌≡◌, ◌⊎◌, ℕ, true, false, Some, slice_get}
use Rattle.gl_base.specs.declared.numbers.Vertex.{Vertex}
use Rattle.machine_core.specs.machine_parts.Parts.{pending_here}
use Rattle.task_sets.specs.declared.task_sched.task_sets.Pick.{Pick}
use Rattle.snapshot_machines.specs.chromatic.Machines.{ColorSnapView, IsColorSnapPart, Setting, part_of_steps}

-- A vertex, its place, and that a scope of it may be admitted: it is pending, and then for its snapshot update, or the window has room.
pub record CanAdmitByColour {P : Type 0} (x : ColorSnapView P) : Type 0 where
  pub pick : Pick
  pub vertex : Vertex
  pub place : slice_get x.core.by_place.items pick.vertex.0 ≡ Some vertex
  pub may : (st : Setting) → IsColorSnapPart st x → MayAdmit st x.core.numbers.local.me.0 vertex.0 (part_of_steps x)
  pub kind : pending_here x.core.numbers vertex.0 ≡ pick.snapshot
  pub room : (pending_here x.core.numbers vertex.0 ≡ true) ⊎ (is_open x.core.numbers.tasks ≡ true)

-- of no vertex that is pending, or any where the window has room, a scope may be admitted
abbrev pub MayAdmitNoneByColour : {P : Type 0} → ColorSnapView P → Type 0
MayAdmitNoneByColour x =
    (st : Setting) → IsColorSnapPart st x → (v : ℕ) → (pending_here x.core.numbers v ≡ true) ⊎ (is_open x.core.numbers.tasks ≡ true) → MayAdmit st x.core.numbers.local.me.0 v (part_of_steps x) → ⊥

-- of no pending vertex a scope may be admitted
abbrev pub MayAdmitNonePending : {P : Type 0} → ColorSnapView P → Type 0
MayAdmitNonePending x = (st : Setting) → IsColorSnapPart st x → (v : ℕ) → pending_here x.core.numbers v ≡ true → MayAdmit st x.core.numbers.local.me.0 v (part_of_steps x) → ⊥

-- Such a vertex was admitted, a task only where no pending one might be, and all is as the cluster has it then; of the numbers only tasks
-- have changed.
pub record HasAdmittedByColour {P : Type 0} (old new : ColorSnapView P) : Type 0 where
  pub can : CanAdmitByColour old
  pub behind : can.pick.snapshot ≡ false → MayAdmitNonePending old
  pub numbers : new.core.numbers ≡ record old.core.numbers { tasks = new.core.numbers.tasks }
  pub tasks : IsAdmittedThere old.core.numbers.tasks new.core.numbers.tasks can.pick.vertex can.pick.snapshot
  pub admitted : (st : Setting) → IsColorSnapPart st old → part_of_steps new ≡ admitted st old.core.numbers.local.me.0 can.vertex.0 (part_of_steps old)
