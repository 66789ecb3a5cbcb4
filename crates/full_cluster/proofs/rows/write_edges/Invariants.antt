use Rattle.std.proofs.Common.{◌≡◌, ◌+◌, length, slice_index}
use Rattle.full_cluster.specs.Inner.Rows.{ComesSoFar, nth_half}
use Rattle.full_cluster.proofs.rows.write_edges.Given as goal

abbrev pub invariant-loop-i : goal.invariant-loop-i
invariant-loop-i l =
    record {
      long : length l.edges ≡ length l.initial.edges;
      count : l.count ≡ length l.halves;
      written : ComesSoFar (λ i. (nth_half l.halves i).edge.0) (λ i. slice_index l.row (length l.halves + i)) (length l.halves) l.initial.edges l.i l.edges;
    }
