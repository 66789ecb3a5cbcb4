-- Flags that are counted.
use Rattle.std.specs.Prelude.{◌≡◌, ℕ, ◌<◌, Bool, true, List, length, sum_by}
use Rattle.task_sets.specs.vertex_queue.Inner.Queues.{bit_if}
use Rattle.task_sets.specs.task_sched.Tasks.{is_flagged}

-- so many have their flag, of vertices that are numbered
abbrev pub AreCounted : List Bool → ℕ → Type 0
AreCounted flags count = (count ≡ sum_by bit_if flags) × (length flags < 4294967296)

-- one has its flag
pub record HasFlag (flags : List Bool) : Type 0 where
  pub vertex : ℕ
  pub within : vertex < length flags
  pub has : is_flagged flags vertex ≡ true
