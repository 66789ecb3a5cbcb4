-- How the tasks of a machine are kept.
use Rattle.std.specs.Prelude.{◌≡◌, ℕ, ◌+◌, ◌<◌, Bool, true, false, Option, List, length, sum_by}
use Rattle.task_sets.specs.vertex_queue.Inner.Queues.{bit_if}
use Rattle.task_sets.specs.task_sched.Tasks.{is_flagged, is_free, IsUpTo}
use Rattle.task_sets.specs.task_sched.Inner.Stages.{StagesView, stage_count, is_staged}

-- each flag stands for each vertex; a task that is not admitted waits in a stage, and a pending vertex that is not admitted in
-- line; who is planned is admitted, and who is admitted and not planned is pending; the plans are counted, and the window holds
pub record AreTasksKept (count : ℕ) (task pending admitted planned : List Bool) (stages : StagesView) (among : List Bool) (plans outside : ℕ) (window : Option ℕ) : Type 0 where
  pub few : count < 4294967296
  pub tasks : length task ≡ count
  pub pendings : length pending ≡ count
  pub admissions : length admitted ≡ count
  pub plannings : length planned ≡ count
  pub staged : stage_count stages ≡ count
  pub line : length among ≡ count
  pub free_tasks : (u : ℕ) → is_staged stages u ≡ is_free task admitted u
  pub free_pending : (u : ℕ) → is_flagged among u ≡ is_free pending admitted u
  pub planned_ones : (u : ℕ) → is_flagged admitted u ≡ false → is_flagged planned u ≡ false
  pub other_ones : (u : ℕ) → is_flagged admitted u ≡ true → is_flagged pending u ≡ false → is_flagged planned u ≡ true
  pub counted : plans ≡ sum_by bit_if planned
  pub fits : IsUpTo window (outside + plans)
