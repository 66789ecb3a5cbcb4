-- Picks of the tasks, and tasks that are as they were.
pub use Rattle.machine_core.specs.machine_scopes.Admitting.{CanTake}
pub use Rattle.task_sets.specs.task_sched.Tasks.{TasksView, IsNextPick, is_flagged, is_free}
use Rattle.std.specs.Prelude.{◌≡◌, ℕ, ◌+◌, ◌==◌, false, if◌then◌else◌, length, slice_set}
use Rattle.std.specs.List.{list_any}
use Rattle.task_sets.specs.declared.task_sched.task_sets.Pick.{Pick}

-- of the pending vertices those that are not admitted stand in line
abbrev pub StandInLine : TasksView → Type 0
StandInLine t = (u : ℕ) → list_any (λ v. v.0 == u) t.asked ≡ is_free t.pending t.admitted u

-- but for the order in which pending ones wait and for the window's plans all is as it was, and this place is not admitted
pub record IsPutBack (old new : TasksView) (place : ℕ) : Type 0 where
  pub many : length new.task ≡ length old.task
  pub flags : length new.admitted ≡ length old.admitted
  pub task : (u : ℕ) → is_flagged new.task u ≡ is_flagged old.task u
  pub pending : (u : ℕ) → is_flagged new.pending u ≡ is_flagged old.pending u
  pub admitted : (u : ℕ) → is_flagged new.admitted u ≡ (if u == place then false else is_flagged old.admitted u)
  pub outside : new.outside ≡ old.outside
  pub window : new.window ≡ old.window

-- the pick is planned no more
pub record IsUnplanned (old new : TasksView) (pick : Pick) : Type 0 where
  pub planned : new.planned ≡ slice_set old.planned pick.vertex.0 false
  pub plans : new.plans + (if pick.snapshot then (if is_flagged old.planned pick.vertex.0 then 1 else 0) else 1) ≡ old.plans
