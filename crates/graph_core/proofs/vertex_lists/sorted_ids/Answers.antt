use Rattle.graph_core.proofs.EdgeLemmas.{distinct_from_rises}
use Rattle.graph_core.proofs.VertexLemmas.{no_double_vertex, refuses_vertex, distinct_ids}
use Rattle.graph_core.proofs.vertex_lists.sorted_ids.Goals as goal

pub returns-in-Ok : goal.returns-in-Ok
returns-in-Ok c =
    let ids = c.args.ids.items in
    let sorted = c.in-Ok.ids.items in (
      c.in-Ok.ensures.0,
      λ i j l m. c.in-Ok.ensures.1 i j 0 l m,
      no_double_vertex ids (distinct_ids ids (distinct_from_rises (λ x. x) ids sorted c.in-Ok.ensures.0 c.in-Ok.ensures.1)),
    )

pub returns-in-Err : goal.returns-in-Err
returns-in-Err c = rw c.double_vertex.ensures (refuses_vertex c.args.ids.items c.in-Err.unsorted c.in-Err.ensures)
