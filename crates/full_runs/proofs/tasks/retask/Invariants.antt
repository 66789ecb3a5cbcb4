use Rattle.std.proofs.Common.{◌≡◌, ℕ, ◌==◌, ◌&&◌, ◌||◌, not, drop, length}
use Rattle.task_sets.specs.vertex_queue.Flags.{is_flagged}
use Rattle.full_runs.specs.Inner.SoFar.{is_woken_by}
use Rattle.full_runs.proofs.tasks.retask.Given as goal

abbrev pub invariant-loop-half : goal.invariant-loop-half
invariant-loop-half l =
    record {
      long : length l.tasks ≡ length l.fn.tasks;
      flagged : (u : ℕ) → (is_woken_by l.woken (drop l.half-index l.halves) u || is_flagged l.tasks u) ≡ (is_woken_by l.woken l.halves u || (is_flagged l.fn.tasks u && not (u == l.fn.v.0)));
    }
