use Rattle.std.proofs.Common.{◌≡◌, ◌<◌, ℕ, [], false, length, get_or, vec_capacity}
use Rattle.task_sets.specs.color_tasks.Inner.Seats.{colour_row, colour_rows}
use Rattle.task_sets.proofs.color_tasks.lines.empty_queues.Given as goal

abbrev pub invariant-loop-row : goal.invariant-loop-row
invariant-loop-row l =
    record {
      count : length l.queues.items ≡ l.row-index;
      room : vec_capacity l.queues ≡ length l.rows;
      long : (c : ℕ) → c < l.row-index → length (get_or l.queues.items c []) ≡ length (colour_row (colour_rows l.rows) c);
      none : (c r : ℕ) → get_or (get_or l.queues.items c []) r false ≡ false;
    }
