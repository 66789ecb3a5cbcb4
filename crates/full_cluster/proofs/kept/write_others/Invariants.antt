use Rattle.std.proofs.Common.{◌≡◌, ◌≢◌, ℕ, ◌<◌, drop, length, slice_index}
use Rattle.full_cluster.specs.Given.{vertex_after}
use Rattle.full_cluster.specs.Owners.{owner_in}
use Rattle.full_cluster.proofs.kept.write_others.Given as goal

abbrev pub invariant-loop-pair : goal.invariant-loop-pair
invariant-loop-pair l =
    record {
      long : length l.numbers ≡ length l.initial.numbers;
      own : (x : ℕ) → x < length l.initial.numbers → owner_in l.owner x ≡ l.me.0 → slice_index l.numbers x ≡ slice_index l.initial.numbers x;
      others : (x : ℕ) → x < length l.initial.numbers → owner_in l.owner x ≢ l.me.0 → vertex_after (drop l.pair-index l.pairs) x (slice_index l.numbers x) ≡ vertex_after l.pairs x (slice_index l.initial.numbers x);
    }
