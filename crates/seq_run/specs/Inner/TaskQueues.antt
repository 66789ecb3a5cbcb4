-- A queue of tasks: flags that say which vertices are tasks, and the vertices in the order in which they became so.
use Rattle.std.specs.Prelude.{◌≡◌, ℕ, ◌<◌, ◌≤◌, Bool, true, false, if◌then◌else◌, ◌==◌, List, length, slice_index_or, sum_by}
use Rattle.gl_base.specs.declared.numbers.Vertex.{Vertex}
use Rattle.seq_run.specs.declared.task_queue.Standing.{Standing}
use Rattle.seq_run.specs.declared.task_queue.Standing.TheVariants.{Outside, Done, Waiting}

-- the flag at this place, and false where there is none
abbrev pub flag : List Bool → ℕ → Bool
flag flags u = slice_index_or flags u false

-- whether a vertex that stands so is a task
abbrev pub is_task : Standing → Bool
is_task Outside = false
is_task Done = false
is_task Waiting = true

-- whether a vertex that stands so is in the queue
abbrev pub is_queued : Standing → Bool
is_queued Outside = false
is_queued Done = true
is_queued Waiting = true

-- 1 for true
abbrev pub bit : Bool → ℕ
bit b = if b then 1 else 0

-- how often the vertex stands in the queue
abbrev pub times : ℕ → List Vertex → ℕ
times u queue = sum_by (λ v. bit (v.0 == u)) queue

-- the queue has each queued vertex once, and no other one; each task is queued
pub record IsQueueOf (tasks queued : List Bool) (queue : List Vertex) : Type 0 where
  pub as_many : length queued ≡ length tasks
  pub once : (u : ℕ) → times u queue ≡ bit (flag queued u)
  pub few : length queue ≡ sum_by bit queued
  pub waiting : (u : ℕ) → flag tasks u ≡ true → flag queued u ≡ true

-- the first vertex of the queue, where there is one, is a task
abbrev pub IsTaskFirst : List Bool → List Vertex → Type 0
IsTaskFirst tasks queue = (v : Vertex) → 0 < length queue → flag tasks (slice_index_or queue 0 v).0 ≡ true

-- so it stands in a queue that has room for all vertices and whose first vertex is a task
pub record IsTaskQueue (tasks queued : List Bool) (waiting : List Vertex) (capacity : ℕ) : Type 0 where
  pub queue : IsQueueOf tasks queued waiting
  pub first : IsTaskFirst tasks waiting
  pub room : length tasks ≤ capacity
