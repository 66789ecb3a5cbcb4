use Rattle.std.proofs.Common.{ℕ, List, ◌++◌, take}
use Rattle.std.specs.List.{flat_map}
use Rattle.graph_core.specs.Digest.{edge_bytes}
use Rattle.graph_core.proofs.digesting.feed_edges.Given as goal

abbrev pub invariant-loop-e : goal.invariant-loop-e
invariant-loop-e g l =
    (fed : List ℕ) → g.D.Digest.holds l.initial.hasher fed → g.D.Digest.holds l.hasher (fed ++ flat_map edge_bytes (take l.e l.graph.edges))
