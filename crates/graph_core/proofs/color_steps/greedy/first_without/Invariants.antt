use Rattle.std.proofs.Common.{◌≡◌, ◌-◌, ℕ, ◌<◌, ◌≤◌, length, slice_index_or}
use Rattle.graph_core.proofs.color_steps.greedy.first_without.Given as goal

abbrev pub invariant-loop-place : goal.invariant-loop-place
invariant-loop-place l =
    record {
      from_one : 1 ≤ l.place;
      inside : l.place < length l.stamps;
      before : (k : ℕ) → 1 ≤ k → k < l.place → slice_index_or l.stamps k 0 ≡ l.stamp;
    }

abbrev pub decreases-loop-place : goal.decreases-loop-place
decreases-loop-place l = length l.stamps - l.place
