use Rattle.std.proofs.Common.{◌≡◌, ℕ, true, false, slice_index_or}
use Rattle.graph_core.specs.Growth.{numbers_of}
use Rattle.graph_core.specs.Inner.GrowthMarks.{AreMarks}
use Rattle.graph_core.proofs.GrowthMarks.{so_far}
use Rattle.graph_core.proofs.growing.list_new.Given as goal

abbrev pub invariant-loop-vertex : goal.invariant-loop-vertex
invariant-loop-vertex l =
    record {
      listed : numbers_of l.listed.items ≡ so_far (numbers_of l.initial.listed.items) (numbers_of l.vertices) l.vertex-index;
      marks : AreMarks (numbers_of l.listed.items) l.marks;
      kept : (v : ℕ) → slice_index_or l.initial.marks v false ≡ true → slice_index_or l.marks v false ≡ true;
    }
