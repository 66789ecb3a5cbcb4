use Rattle.std.proofs.Common.{◌<◌, ◌++◌, ℕ, List, length, take, ◌∙◌, subst, arith}
use Rattle.std.specs.Int.{to_be_bytes, w32}
use Rattle.std.specs.List.{flat_map}
use Rattle.graph_core.specs.DataGraph.{DataEdge}
use Rattle.graph_core.specs.Digest.{edge_bytes}
use Rattle.graph_core.proofs.DigestLemmas.{edge_bytes-more, three_parts}
use Rattle.graph_core.proofs.digesting.feed_edges.Goals as goal

pub loop-e-preserved : goal.loop-e-preserved
loop-e-preserved g c = λ fed held.
    let edges = c.args.graph.now.edges in
    let line = c.edge-line.result in
    let x : DataEdge = record { from = line.from.0; to = line.to.0; weight = line.weight } in
    let old = fed ++ flat_map edge_bytes (take c.loop-e.e edges) in
    let first = c.update.ensures old (c.loop-e.invariant fed held) in
    let second = c.update-in-loop-e.ensures (old ++ c.to_be_bytes.result) first in
    let third = c.update-in-loop-e-2.ensures ((old ++ c.to_be_bytes.result) ++ c.to_be_bytes-in-loop-e.result) second in
    let inside : c.loop-e.e < length edges = omega (arith, c.m-e-end.ensures.count) in
    let same = three_parts old c.to_be_bytes.result c.to_be_bytes-in-loop-e.result c.to_be_bytes-in-loop-e-2.result (to_be_bytes w32 x.from) (to_be_bytes w32 x.to) (to_be_bytes w32 x.weight) c.to_be_bytes.ensures c.to_be_bytes-in-loop-e.ensures c.to_be_bytes-in-loop-e-2.ensures
    ∙ edge_bytes-more edges fed c.loop-e.e x inside c.edge-line.ensures.1 in
    subst (λ (bytes : List ℕ). g.D.Digest.holds c.update-in-loop-e-2.new.self bytes) same third
