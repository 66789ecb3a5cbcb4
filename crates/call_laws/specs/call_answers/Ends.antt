-- How a run with failures ends, told by its lists.
use Rattle.std.specs.Prelude.{Bool, List, length, sum_by, true, ℕ, ◌<◌, ◌≡◌, ◌≤◌}
use Rattle.gl_base.specs.declared.entries.Entry.{Entry}
use Rattle.call_laws.specs.call_answers.Answers.{RunLists, Shared, last_order}
use Rattle.graph_core.specs.DataGraph.{size}
use Rattle.seq_run.specs.Orders.{IsFinished, tasks_after}

-- The order leaves no task, and no failure went unanswered; and where the end is saved, a snapshot was acknowledged, and the last one is of
-- the whole order.
pub record FinishesRun (saves : Bool) (shared : Shared) (kept : List Entry) (snapshots : List (List Entry)) (unanswered : ℕ) (lists : RunLists) : Type 0 where
  pub finished : IsFinished shared.graph shared.program lists.order
  pub answered : unanswered ≡ 0
  pub some : saves ≡ true → 1 ≤ length snapshots
  pub saved : saves ≡ true → last_order kept snapshots ≡ lists.order

-- So many updates were made as the budget has, lost ones among them, no failure went unanswered, and the order leaves the vertex a task.
pub record SpendsRun (shared : Shared) (budget left unanswered : ℕ) (lists : RunLists) : Type 0 where
  pub spent : sum_by (λ count. count) lists.done ≡ budget
  pub answered : unanswered ≡ 0
  pub inside : left < size shared.graph
  pub task : tasks_after shared.graph shared.program lists.order left ≡ true
