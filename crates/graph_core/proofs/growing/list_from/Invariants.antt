use Rattle.std.proofs.Common.{◌≡◌, ◌-◌, ℕ, true, false, length, slice_index_or}
use Rattle.graph_core.specs.Growth.{numbers_of}
use Rattle.graph_core.specs.Inner.GrowthMarks.{AreMarks, IsGrowing, IsNextSeed}
use Rattle.graph_core.proofs.growing.list_from.Given as goal

abbrev pub invariant-queue : goal.invariant-queue
invariant-queue l =
    record {
      growing : (first : ℕ) → IsNextSeed l.graph first l.fn.seed.0 (numbers_of l.fn.listed.items) l.fn.marks → IsGrowing l.graph first (numbers_of l.listed.items) l.place;
      marks : AreMarks (numbers_of l.listed.items) l.marks;
      kept : (v : ℕ) → slice_index_or l.fn.marks v false ≡ true → slice_index_or l.marks v false ≡ true;
      seed : slice_index_or l.marks l.fn.seed.0 false ≡ true;
    }

abbrev pub decreases-queue : goal.decreases-queue
decreases-queue l = length l.marks - l.place
