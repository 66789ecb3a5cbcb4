-- What is picked.
use Rattle.std.specs.Prelude.{◌≡◌, ℕ, true, false, Option, Some, None}
use Rattle.gl_base.specs.declared.numbers.Vertex.{Vertex}
use Rattle.task_sets.specs.declared.task_sched.task_sets.Pick.{Pick}
use Rattle.task_sets.specs.task_sched.Tasks.{TasksView, is_free, is_open}

-- a task that is not admitted, where the window has room, and none where there is none or no room
abbrev pub IsFreeTask : TasksView → Option Vertex → Type 0
IsFreeTask t None = is_open t ≡ true → (u : ℕ) → is_free t.task t.admitted u ≡ false
IsFreeTask t (Some v) = (is_open t ≡ true) × (is_free t.task t.admitted v.0 ≡ true)

-- a pending vertex before a task
abbrev pub pick_of : Option Vertex → Option Vertex → Option Pick
pick_of (Some v) task = Some (record { vertex = v; snapshot = true })
pick_of None (Some v) = Some (record { vertex = v; snapshot = false })
pick_of None None = None
