use Rattle.std.proofs.Common.{◌≡◌, ◌<◌, ℕ, true, false, length, slice_index_or}
use Rattle.graph_core.specs.Growth.{numbers_of, listed_after}
use Rattle.graph_core.specs.Inner.GrowthMarks.{AreMarks}
use Rattle.graph_core.proofs.growing.list_all.Given as goal

abbrev pub invariant-loop-v : goal.invariant-loop-v
invariant-loop-v l =
    record {
      marks : AreMarks (numbers_of l.listed.items) l.marks;
      grown : numbers_of l.listed.items ≡ listed_after l.graph l.fn.first.0 (length l.listed.items);
      first : slice_index_or l.marks l.fn.first.0 false ≡ true;
      before : (u : ℕ) → u < l.v → slice_index_or l.marks u false ≡ true;
    }
