use Rattle.std.proofs.Common.{◌≡◌, ℕ, ◌<◌, length, map, slice_index, take}
use Rattle.engine_runs.specs.append.Inner.Numbers.{saved_or, vertex_pair}
use Rattle.engine_runs.proofs.append.numbers.put_numbers.Given as goal

abbrev pub invariant-loop-pair : goal.invariant-loop-pair
invariant-loop-pair l =
    record {
      long : length l.values ≡ length l.initial.values;
      each : (v : ℕ) → v < length l.initial.values → slice_index l.values v ≡ saved_or (slice_index l.initial.values v) (map vertex_pair (take l.pair-index l.saved)) v;
    }
