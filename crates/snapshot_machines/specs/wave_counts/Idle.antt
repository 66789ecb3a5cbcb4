-- When a machine is idle.
pub use Rattle.task_sets.specs.task_sched.Tasks.{TasksView, is_flagged}
pub use Rattle.scope_locks.specs.scope_pipe.Pipes.{PipeView, flight_count, come}
use Rattle.std.specs.Prelude.{◌≡◌, ℕ, ◌<◌, Bool, true, false, List, []}
use Rattle.graph_core.specs.DataGraph.{size}
use Rattle.snapshot_machines.specs.wave_counts.Counts.{Part, Setting}

-- no vertex is a task or pending, no scope of this machine is in flight, and none has come to it for locks
pub record HasNothingToDo (tasks : TasksView) (pipe : PipeView) : Type 0 where
  pub task : (u : ℕ) → is_flagged tasks.task u ≡ false
  pub pending : (u : ℕ) → is_flagged tasks.pending u ≡ false
  pub flights : flight_count pipe ≡ 0
  pub come : come pipe ≡ 0

-- some vertex of the graph has the test, or some place of the list has the flag: both or neither
pub record AreFlagsOf (many : ℕ) (test : ℕ → Bool) (flags : List Bool) : Type 0 where
  pub flagged : (u : ℕ) → u < many → test u ≡ true → (k : ℕ) × (is_flagged flags k ≡ true)
  pub vertex : (k : ℕ) → is_flagged flags k ≡ true → (u : ℕ) × (u < many) × (test u ≡ true)

-- These are the tasks of the machine's part and its scopes: each of its tasks has a flag, and each flag is of one; and a scope has
-- come exactly where somebody waits for a lock.
pub record AreTasksAndScopesOf (st : Setting) (part : Part) (tasks : TasksView) (pipe : PipeView) : Type 0 where
  pub task : AreFlagsOf (size st.graph) part.task tasks.task
  pub pending : AreFlagsOf (size st.graph) part.pending tasks.pending
  pub flying : part.flying ≡ flight_count pipe
  pub waits : come pipe ≡ 0 → (x : ℕ) → x < size st.graph → part.queue x ≡ []
  pub silent : ((x : ℕ) → x < size st.graph → part.queue x ≡ []) → come pipe ≡ 0
