use Rattle.std.proofs.Common.{ℕ, List, ◌++◌, take}
use Rattle.std.specs.Int.{to_be_bytes, w64}
use Rattle.std.specs.List.{flat_map}
use Rattle.graph_core.proofs.digesting.feed_ids.Given as goal

abbrev pub invariant-loop-v : goal.invariant-loop-v
invariant-loop-v g l =
    (fed : List ℕ) → g.D.Digest.holds l.initial.hasher fed → g.D.Digest.holds l.hasher (fed ++ flat_map (to_be_bytes w64) (take l.v l.graph.ids))
