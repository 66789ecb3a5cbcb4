-- How a queue is kept: a flag for each vertex that is a member, and the vertices in the order in which they became so.
use Rattle.std.specs.Prelude.{◌≡◌, ℕ, ◌+◌, ◌%◌, ◌^◌, ◌<◌, ◌≤◌, Bool, true, false, if◌then◌else◌, ◌==◌, List, length, slice_index_or, sum_by}
use Rattle.gl_base.specs.declared.numbers.Vertex.{Vertex}
use Rattle.task_sets.specs.vertex_queue.Flags.{is_flagged}
use Rattle.task_sets.specs.declared.vertex_queue.queues.Standing.{Standing}
use Rattle.task_sets.specs.declared.vertex_queue.queues.Standing.TheVariants.{Outside, Done, Waiting}

-- whether a vertex that stands so is a member
abbrev pub is_member : Standing → Bool
is_member Outside = false
is_member Done = false
is_member Waiting = true

-- whether a vertex that stands so is in the queue
abbrev pub stands_in : Standing → Bool
stands_in Outside = false
stands_in Done = true
stands_in Waiting = true

-- 1 for true
abbrev pub bit_if : Bool → ℕ
bit_if b = if b then 1 else 0

-- how often the vertex stands in the queue
abbrev pub how_often : ℕ → List Vertex → ℕ
how_often u queue = sum_by (λ v. bit_if (v.0 == u)) queue

-- the queue has each queued vertex once, and no other one; each member is queued
pub record KeepsQueue (members queued : List Bool) (queue : List Vertex) : Type 0 where
  pub as_many : length queued ≡ length members
  pub once : (u : ℕ) → how_often u queue ≡ bit_if (is_flagged queued u)
  pub few : length queue ≡ sum_by bit_if queued
  pub waiting : (u : ℕ) → is_flagged members u ≡ true → is_flagged queued u ≡ true

-- the first vertex of the queue, where there is one, is a member
abbrev pub IsMemberFirst : List Bool → List Vertex → Type 0
IsMemberFirst members queue = (v : Vertex) → 0 < length queue → is_flagged members (slice_index_or queue 0 v).0 ≡ true

-- so it stands in a queue that has room for all vertices and whose first vertex is a member
pub record IsVertexQueue (members queued : List Bool) (waiting : List Vertex) (capacity : ℕ) : Type 0 where
  pub queue : KeepsQueue members queued waiting
  pub first : IsMemberFirst members waiting
  pub room : length members ≤ capacity

-- the turn of whom so many in line come before
abbrev pub turn_behind : ℕ → ℕ → ℕ
turn_behind first k = (first + k) % 2 ^ 32

-- so a line stands: each vertex that has a flag once, and no other one, with room for all; and each has its turn noted
pub record IsLine (among : List Bool) (line : List Vertex) (capacity : ℕ) (turns : List ℕ) (first : ℕ) : Type 0 where
  pub queue : KeepsQueue among among line
  pub room : length among ≤ capacity
  pub few : length among < 2 ^ 32
  pub noted : length turns ≡ length among
  pub turn : (k : ℕ) (d : Vertex) → k < length line → slice_index_or turns (slice_index_or line k d).0 0 ≡ turn_behind first k
