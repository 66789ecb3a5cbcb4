use Rattle.std.proofs.Common.{◌≡◌, ℕ, ◌<◌, ◌==◌, ◌&&◌, ◌||◌, not, drop, length}
use Rattle.full_cluster.specs.Given.{is_marked}
use Rattle.full_cluster.specs.Owners.{owner_in}
use Rattle.full_cluster.specs.Inner.Rows.{wakes_own}
use Rattle.full_cluster.proofs.kept.finish.Given as goal

abbrev pub invariant-loop-half : goal.invariant-loop-half
invariant-loop-half l =
    record {
      long : length l.tasks ≡ length l.fn.tasks;
      marked : (u : ℕ) → u < length l.fn.tasks →
          (wakes_own (owner_in l.owner) l.me.0 l.woken (drop l.half-index l.halves) u || is_marked l.tasks u) ≡ (wakes_own (owner_in l.owner) l.me.0 l.woken l.halves u || (is_marked l.fn.tasks u && not (u == l.fn.v.0)));
    }
