use Rattle.std.proofs.Common.{◌≡◌, ℕ, ◌+◌, ◌<◌, drop, length, slice_index}
use Rattle.std.specs.Prelude.{count_by}
use Rattle.full_runs.specs.FullEnds.{is_of}
use Rattle.full_runs.proofs.counts.count_all.Given as goal

abbrev pub invariant-loop-entry : goal.invariant-loop-entry
invariant-loop-entry l =
    record {
      long : length l.done ≡ length l.initial.done;
      each : (a : ℕ) → a < length l.initial.done → slice_index l.done a + count_by (is_of a) (drop l.entry-index l.order) ≡ count_by (is_of a) l.order;
    }
