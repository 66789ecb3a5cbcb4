use Rattle.std.proofs.Common.{◌≡◌, ◌<◌, ◌≤◌, ℕ, get_or, length, map, take, vec_capacity}
use Rattle.task_sets.specs.color_tasks.Inner.Seats.{AreSeats, colour_row, colour_rows}
use Rattle.task_sets.specs.declared.color_tasks.lines.Seat.{Seat}
use Rattle.task_sets.proofs.color_tasks.lines.ColorLines.new.Given as goal

abbrev pub invariant-loop-place : goal.invariant-loop-place
invariant-loop-place l =
    record {
      seats : AreSeats l.seats.items (colour_rows l.rows.items);
      count : (k d : ℕ) → k < length l.colours → get_or l.colours k d < length l.rows.items;
      room : vec_capacity l.seats ≡ length l.colours;
      many : length l.seats.items ≡ l.place;
      short : (c : ℕ) → length (colour_row (colour_rows l.rows.items) c) ≤ l.place;
      colours : map (λ (s : Seat). s.colour) l.seats.items ≡ take l.place l.colours;
    }
