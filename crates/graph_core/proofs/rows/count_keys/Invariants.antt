use Rattle.std.proofs.Common.{◌≡◌, ℕ, ◌<◌, length, slice_index, take}
use Rattle.graph_core.specs.Rows.{with_key}
use Rattle.graph_core.proofs.rows.count_keys.Given as goal

abbrev pub invariant-loop-place : goal.invariant-loop-place
invariant-loop-place g l =
    (k : ℕ) → k < length l.starts → slice_index l.starts k ≡ length (with_key k (take l.place (g.K.Keyed.list l.keyed)))
