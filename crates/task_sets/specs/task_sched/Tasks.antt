-- The tasks of a machine, and which vertex it admits next.
use Rattle.std.specs.Prelude.{◌≡◌, ℕ, ◌+◌, ◌<◌, ◌≤◌, Bool, true, false, ◌&&◌, not, Option, Some, None, List, [], length, nat_lt, slice_get}
use Rattle.gl_base.specs.declared.numbers.Vertex.{Vertex}
use Rattle.task_sets.specs.declared.task_sched.task_sets.Pick.{Pick}
pub use Rattle.task_sets.specs.vertex_queue.Flags.{is_flagged}

-- For each vertex whether it is a task, whether it is pending, whether it is admitted, and whether it was admitted for an update.
-- Then the pending vertices that are not admitted, in the order in which they became pending as long as none was admitted out of
-- turn; how many are admitted for an update; how many updates are outside the last acknowledged snapshot; and how many of both
-- there may be, where that is bounded.
pub record TasksView : Type 0 where
  pub task : List Bool
  pub pending : List Bool
  pub admitted : List Bool
  pub planned : List Bool
  pub asked : List Vertex
  pub plans : ℕ
  pub outside : ℕ
  pub window : Option ℕ

-- the vertex has this flag and is not admitted
abbrev pub is_free : List Bool → List Bool → ℕ → Bool
is_free flags admitted u = is_flagged flags u && not (is_flagged admitted u)

-- some vertex is pending
pub record HasPending (t : TasksView) : Type 0 where
  pub vertex : ℕ
  pub within : vertex < length t.task
  pub pending : is_flagged t.pending vertex ≡ true

-- so many are fewer than there may be, or no more
abbrev pub is_below : Option ℕ → ℕ → Bool
is_below None n = true
is_below (Some most) n = nat_lt n most

abbrev pub IsUpTo : Option ℕ → ℕ → Type 0
IsUpTo None n = Unit {0}
IsUpTo (Some most) n = n ≤ most

-- the window has room for one update more
abbrev pub is_open : TasksView → Bool
is_open t = is_below t.window (t.outside + t.plans)

-- the first in line of the pending vertices that are not admitted, or, where there is none and the window has room, a task that
-- is not admitted
abbrev pub IsPicked : TasksView → Bool → Vertex → Type 0
IsPicked t true v = slice_get t.asked 0 ≡ Some v
IsPicked t false v = (t.asked ≡ []) × (is_open t ≡ true) × (is_free t.task t.admitted v.0 ≡ true)

-- that is what is admitted next, and nothing exactly where there is no such vertex
abbrev pub IsNextPick : TasksView → Option Pick → Type 0
IsNextPick t None = (t.asked ≡ []) × (is_open t ≡ true → (u : ℕ) → is_free t.task t.admitted u ≡ false)
IsNextPick t (Some pick) = IsPicked t pick.snapshot pick.vertex
