use Rattle.std.proofs.Common.{◌≡◌, ℕ}
use Rattle.std.specs.Prelude.{nat_lt}
use Rattle.task_sets.specs.color_tasks.Lines.{is_in_line}
use Rattle.task_sets.proofs.color_tasks.lines.ColorLines.full.Given as goal

abbrev pub invariant-loop-place : goal.invariant-loop-place
invariant-loop-place l =
    record {
      colours : l.lines.colours ≡ l.colours;
      all : (u : ℕ) → is_in_line l.lines u ≡ nat_lt u l.place;
    }
