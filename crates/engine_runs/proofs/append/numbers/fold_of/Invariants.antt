use Rattle.std.proofs.Common.{◌≡◌, ℕ, ◌<◌, length, slice_index, take}
use Rattle.std.specs.List.{flat_map}
use Rattle.engine_runs.specs.append.Inner.Numbers.{part_vertices, saved_or}
use Rattle.engine_runs.proofs.append.numbers.fold_of.Given as goal

abbrev pub invariant-loop-part : goal.invariant-loop-part
invariant-loop-part l =
    record {
      long : length l.values.items ≡ l.n;
      each : (v : ℕ) → v < l.n → slice_index l.values.items v ≡ saved_or 0 (flat_map part_vertices (take l.part-index l.made.sections.items)) v;
    }
