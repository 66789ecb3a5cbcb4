use Rattle.std.proofs.Common.{refl, arith}
use Rattle.std.proofs.lemmas.List.{length-map}
use Rattle.graph_core.specs.Edges.{data_edge}
use Rattle.graph_core.proofs.VertexLemmas.{slice_get-map}
use Rattle.graph_core.proofs.graph.Graph.ends.Goals as goal

pub returns : goal.returns
returns c =
    let edges = c.self.inside.edges.items in
    let inside = rw (← c.self.view_is) at c.requires in (
      data_edge c.index-edge.result.now,
      rw (← c.self.view_is) (slice_get-map data_edge edges c.args.e.0 c.index-edge.result.now (omega (arith, inside, length-map edges data_edge)) c.index-edge.ensures),
      refl,
      refl,
    )
