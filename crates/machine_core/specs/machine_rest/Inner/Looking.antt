-- What is looked at of scopes that have come, and of tasks.
use Rattle.std.specs.Prelude.{◌≡◌, ◌⊎◌, ℕ, ◌<◌, Bool, true, false, Option, Some, None, List, length}
use Rattle.gl_base.specs.declared.numbers.Vertex.{Vertex}
use Rattle.gl_base.specs.declared.scopes.ScopeId.{ScopeId}
use Rattle.scope_locks.specs.scope_pipe.Entered.{EnteredView, lock_asked}
use Rattle.task_sets.specs.task_sched.Tasks.{TasksView, is_flagged, is_free}
use Rattle.scope_locks.specs.vertex_locks.Locks.{LockView, has}
use Rattle.scope_locks.specs.vertex_locks.Tables.{is_owned, queue_at}

-- ---- scopes

-- the lock that it asked for last, where it asked for one, is here
abbrev pub AsksForOwn : List (Option LockView) → EnteredView → Type 0
AsksForOwn locks e = (x : Vertex) → lock_asked e ≡ Some x → is_owned locks x.0 ≡ true

abbrev pub is_in_queue : List (Option LockView) → ScopeId → Option Vertex → Bool
is_in_queue locks s None = false
is_in_queue locks s (Some x) = has s (queue_at locks x.0)

-- it waits for the lock that it asked for last
abbrev pub is_at_lock : List (Option LockView) → EnteredView → Bool
is_at_lock locks e = is_in_queue locks e.scope (lock_asked e)

-- ---- tasks

-- a vertex is a task, or pending and not admitted
pub record HasWork (t : TasksView) : Type 0 where
  pub place : ℕ
  pub inside : place < length t.task
  pub flag : (is_flagged t.task place ≡ true) ⊎ (is_flagged t.pending place ≡ true)

-- no vertex is
pub record HasNoWork (t : TasksView) : Type 0 where
  pub task : (u : ℕ) → is_flagged t.task u ≡ false
  pub pending : (u : ℕ) → is_free t.pending t.admitted u ≡ false
