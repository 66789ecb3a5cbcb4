use Rattle.std.proofs.Common.{◌≡◌, length, take}
use Rattle.graph_core.specs.color_steps.Inner.Stamps.{AreStamped}
use Rattle.graph_core.proofs.color_steps.greedy.stamp_taken.Given as goal

abbrev pub invariant-loop-half : goal.invariant-loop-half
invariant-loop-half l =
    record {
      len : length l.stamps.items ≡ length l.fn.stamps.items;
      stamps : AreStamped l.stamp l.colours (take l.half-index l.halves) l.fn.stamps.items l.stamps.items;
    }
