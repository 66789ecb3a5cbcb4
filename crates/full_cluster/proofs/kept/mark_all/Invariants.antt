use Rattle.std.proofs.Common.{◌≡◌, ℕ, ◌<◌, ◌||◌, drop, length}
use Rattle.full_cluster.specs.Given.{is_listed, is_marked}
use Rattle.full_cluster.proofs.kept.mark_all.Given as goal

abbrev pub invariant-loop-u : goal.invariant-loop-u
invariant-loop-u l =
    record {
      long : length l.marks ≡ length l.initial.marks;
      marked : (u : ℕ) → u < length l.initial.marks → (is_listed (drop l.u-index l.list) u || is_marked l.marks u) ≡ (is_listed l.list u || is_marked l.initial.marks u);
    }
