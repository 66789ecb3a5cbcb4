-- The end of a run.
use Rattle.std.proofs.Common.{◌≡◌, ℕ, ◌<◌, ◌≤◌, Bool, true, false, List, length, Option, None, Some, sym, ◌∙◌, arith}
use Rattle.std.specs.Prelude.{MatchOption}
use Rattle.gl_base.specs.declared.entries.Entry.{Entry}
use Rattle.gl_base.specs.declared.numbers.Vertex.{Vertex}
use Rattle.graph_core.specs.DataGraph.{DataGraph, size}
use Rattle.task_sets.specs.vertex_queue.Flags.{is_flagged}
use Rattle.full_scope.specs.FullUpdates.{FullUpdate}
use Rattle.full_runs.specs.FullEnds.{RunsFullyTo}
use Rattle.full_runs.specs.Inner.SoFar.{AreSoFar}
use Rattle.full_runs.proofs.TaskLemmas.{flagged_low}

module _ (g : DataGraph) (p : FullUpdate) (owner : ℕ → ℕ) (budget : ℕ) (order : List Entry) (values edges : List ℕ) (tasks : List Bool) (so_far : AreSoFar g p owner order values edges tasks) where
  -- no task is left
  pub none_left : length order ≤ budget → ((u : ℕ) → is_flagged tasks u ≡ false) → RunsFullyTo g p owner budget order values edges None
  none_left few none = record { play = so_far.play; few = few; ended = λ u inside. sym (so_far.tasks_are u inside) ∙ none u }

  -- the budget is spent
  pub spent_so : length order ≡ budget → (left : Option Vertex) → MatchOption left ((u : ℕ) → is_flagged tasks u ≡ false) (λ v. is_flagged tasks v.0 ≡ true) → RunsFullyTo g p owner budget order values edges left
  spent_so spent None none = none_left (omega (arith, spent)) none
  spent_so spent (Some v) flagged =
      let low : v.0 < length tasks = flagged_low tasks v.0 flagged in
      let inside : v.0 < size g = omega (arith, low, so_far.count) in
      record {
        play = so_far.play;
        few = omega (arith, spent);
        ended = record { spent = spent; inside = inside; task = sym (so_far.tasks_are v.0 inside) ∙ flagged };
      }
