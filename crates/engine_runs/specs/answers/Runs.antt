-- What a run with a store is.
pub use Rattle.call_laws.specs.call_answers.Answers.{IsRunWithFailures, KeepsToWindow, RunLists, Shared}
pub use Rattle.engine_runs.specs.answers.Ends.{RunEndMeaning}
pub use Rattle.engine_runs.specs.answers.Lines.{AreSnapLines}
pub use Rattle.engine_runs.specs.declared.answers.runs.StoredRun.{StoredRun}
use Rattle.std.specs.Prelude.{Bool, List, suc, sum_by, ℕ, ◌≤◌}
use Rattle.gl_base.specs.declared.entries.Entry.{Entry}
use Rattle.graph_core.specs.DataGraph.{size}
use Rattle.seq_run.specs.Orders.{replay}
use Rattle.seq_run.specs.Runs.{AreNumbers}

-- the lists of a run
abbrev pub lists_of : StoredRun → RunLists
lists_of run = record { order = run.order.items; lost = run.lost.items; done = run.done.items; fired = run.fired.items }

-- It is a run with failures from this order on, whose end is saved or not, resumed or not, with this window and budget, on so many machines; its store had so many
-- snapshots, and got these behind them: of each machine at most a window of updates is lost for each failure that fired, and at most that is
-- outside the last snapshot. Its lines are those of the snapshots, its numbers the replay of its order; and it ended as it says.
pub record IsStoredRun (saves : Bool) (shared : Shared) (machines window budget stored : ℕ) (kept : List Entry) (resumed : Bool) (snapshots : List (List Entry)) (run : StoredRun) : Type 0 where
  pub unanswered : ℕ
  pub is : IsRunWithFailures shared machines kept resumed unanswered (lists_of run)
  pub keeps : KeepsToWindow window kept snapshots (lists_of run)
  pub few : sum_by (λ count. count) run.done.items ≤ budget
  pub lines : AreSnapLines shared (suc stored) snapshots run.snapshots.items
  pub numbers_are : AreNumbers (size shared.graph) (replay shared.graph shared.program run.order.items).vertex run.numbers.items
  pub ends : RunEndMeaning saves shared machines window budget stored kept snapshots unanswered (lists_of run) run.end
