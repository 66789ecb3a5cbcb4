-- Each row is empty.
use Rattle.task_sets.proofs.color_tasks.SeatLemmas.{all_empty}
use Rattle.task_sets.proofs.color_tasks.lines.empty_rows.Goals as goal

pub returns-clause-empty : goal.returns-clause-empty
returns-clause-empty c = all_empty c.loop.rows.items c.loop.invariant.empty
