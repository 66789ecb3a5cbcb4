use Rattle.std.proofs.Common.{◌≡◌, ℕ, ◌<◌, drop, length, slice_index}
use Rattle.full_cluster.specs.Given.{vertex_after}
use Rattle.full_cluster.proofs.kept.write_vertices.Given as goal

abbrev pub invariant-loop-pair : goal.invariant-loop-pair
invariant-loop-pair l =
    record {
      long : length l.numbers ≡ length l.initial.numbers;
      written : (x : ℕ) → x < length l.initial.numbers → vertex_after (drop l.pair-index l.pairs) x (slice_index l.numbers x) ≡ vertex_after l.pairs x (slice_index l.initial.numbers x);
    }
