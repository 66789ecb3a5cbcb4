-- What a run without a store is.
pub use Rattle.call_laws.specs.call_answers.Answers.{IsRunWithFailures, RunLists, Shared}
pub use Rattle.engine_runs.specs.answers.Runs.{lists_of}
pub use Rattle.engine_runs.specs.declared.answers.runs.StoredRun.{StoredRun}
use Rattle.std.specs.Prelude.{List, [], false, filter, sum_by, ℕ, ◌++◌, ◌≡◌, ◌≤◌}
use Rattle.call_laws.specs.attempts.Entries.{is_restart, is_update}
use Rattle.call_laws.specs.call_answers.Ends.{SpendsRun}
use Rattle.engine_runs.specs.declared.answers.runs.StoredEnd.{StoredEnd}
use Rattle.engine_runs.specs.declared.answers.runs.StoredEnd.TheVariants.{DiskFault, Finished, Full, Spent}
use Rattle.gl_base.specs.declared.entries.Entry.{Entry}
use Rattle.graph_core.specs.DataGraph.{size}
use Rattle.seq_run.specs.Orders.{IsFinished, replay}
use Rattle.seq_run.specs.Runs.{AreNumbers}

-- all restarts of the order stand before all its updates
abbrev pub HasRestartsFirst : List Entry → Type 0
HasRestartsFirst order = order ≡ filter is_restart order ++ filter is_update order

-- The run left no task; or it spent its budget, and left this vertex a task. It has no other end.
abbrev pub EndsUnstored : Shared → ℕ → RunLists → StoredEnd → Type 0
EndsUnstored shared budget lists Finished = IsFinished shared.graph shared.program lists.order
EndsUnstored shared budget lists (Spent left) = SpendsRun shared budget left.0 0 lists
EndsUnstored shared budget lists (Full stored bytes) = ⊥
EndsUnstored shared budget lists DiskFault = ⊥

-- A run without a store, on so many machines and with this budget: one with failures from the start, of which each was answered. No snapshot was taken, so that none lies before a
-- restart of its order. Its numbers are the replay of its order.
pub record IsUnstoredRun (shared : Shared) (machines budget : ℕ) (run : StoredRun) : Type 0 where
  pub is : IsRunWithFailures shared machines [] false 0 (lists_of run)
  pub again : HasRestartsFirst run.order.items
  pub few : sum_by (λ count. count) run.done.items ≤ budget
  pub snapshots : run.snapshots.items ≡ []
  pub numbers_are : AreNumbers (size shared.graph) (replay shared.graph shared.program run.order.items).vertex run.numbers.items
  pub ends : EndsUnstored shared budget (lists_of run) run.end
