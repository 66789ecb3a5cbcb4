-- The vertex that is admitted next in a step, and the one that is updated at once.
pub use Rattle.machine_core.specs.machine_scopes.Admitting.{CanTake}
pub use Rattle.snapshot_machines.specs.saving.Updates.{WaitsAt}
use Rattle.std.specs.Prelude.{◌≡◌, ℕ, ◌<◌, true, false, Some, length, slice_get}
use Rattle.machine_core.specs.color_parts.Enlisting.{is_free_such}
use Rattle.machine_core.specs.declared.color_parts.enlisting.Which.TheVariants.{Pending, Tasks}
use Rattle.task_sets.specs.task_sched.Tasks.{is_open}
use Rattle.machine_core.specs.declared.machine_at_once.finding.Found.{Found}
use Rattle.task_sets.specs.declared.task_sched.task_sets.Pick.{Pick}
use Rattle.snapshot_machines.specs.chromatic.AtOnce.{MayUpdateByColour}
use Rattle.snapshot_machines.specs.chromatic.Machines.{ColorSnapView}

-- of the vertices of the step's colour none that is pending waits
abbrev pub WaitsNonePending : {P : Type 0} → ColorSnapView P → Type 0
WaitsNonePending x = (place : ℕ) → place < length x.core.numbers.tasks.task → slice_get x.colours place ≡ Some x.colour → is_free_such Pending x.core.numbers.tasks place ≡ false

-- The vertex at the place that is picked may be admitted in the tasks, and has the step's colour; where it is a task, no pending one waits.
pub record IsDueInStep {P : Type 0} (x : ColorSnapView P) (pick : Pick) : Type 0 where
  pub can : CanTake x.core.numbers.tasks pick
  pub colour : slice_get x.colours pick.vertex.0 ≡ Some x.colour
  pub behind : pick.snapshot ≡ false → WaitsNonePending x

-- of the vertices of the step's colour none that is pending waits, and where the window has room no task
pub record IsNoneDueInStep {P : Type 0} (x : ColorSnapView P) : Type 0 where
  pub pending : WaitsNonePending x
  pub tasks : is_open x.core.numbers.tasks ≡ true → (place : ℕ) → place < length x.core.numbers.tasks.task → slice_get x.colours place ≡ Some x.colour → is_free_such Tasks x.core.numbers.tasks place ≡ false

-- the vertex that was found waits for its update at its place, and may be updated at once
pub record IsFoundInStep {P : Type 0} (x : ColorSnapView P) (f : Found) : Type 0 where
  pub waits : WaitsAt x.core.numbers f.place f.vertex
  pub may : MayUpdateByColour x f.vertex
