use Rattle.std.proofs.Common.{◌≡◌, ℕ, ◌<◌, drop, length, slice_index}
use Rattle.full_cluster.specs.Given.{edge_after}
use Rattle.full_cluster.proofs.kept.write_edges.Given as goal

abbrev pub invariant-loop-pair : goal.invariant-loop-pair
invariant-loop-pair l =
    record {
      long : length l.edges ≡ length l.initial.edges;
      written : (e : ℕ) → e < length l.initial.edges → edge_after (drop l.pair-index l.pairs) e (slice_index l.edges e) ≡ edge_after l.pairs e (slice_index l.initial.edges e);
    }
