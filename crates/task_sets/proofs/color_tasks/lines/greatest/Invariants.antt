use Rattle.std.proofs.Common.{◌<◌, ◌≤◌, ℕ, get_or}
use Rattle.task_sets.proofs.color_tasks.lines.greatest.Given as goal

abbrev pub invariant-loop-colour : goal.invariant-loop-colour
invariant-loop-colour l = (k d : ℕ) → k < l.colour-index → get_or l.colours k d ≤ l.most
