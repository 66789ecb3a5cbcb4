use Rattle.std.proofs.Common.{◌≡◌, length, slice_index}
use Rattle.full_cluster.specs.Inner.Rows.{ComesSoFar, nth_half}
use Rattle.full_cluster.proofs.rows.write_ends.Given as goal

abbrev pub invariant-loop-i : goal.invariant-loop-i
invariant-loop-i l =
    record {
      long : length l.numbers ≡ length l.initial.numbers;
      written : ComesSoFar (λ i. (nth_half l.halves i).other.0) (slice_index l.row) (length l.halves) l.initial.numbers l.i l.numbers;
    }
