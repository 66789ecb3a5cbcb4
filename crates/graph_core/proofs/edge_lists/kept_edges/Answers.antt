use Rattle.graph_core.proofs.EdgeLemmas.{refuses_double, refuses_ends, edges_kept}
use Rattle.graph_core.proofs.edge_lists.kept_edges.Goals as goal

pub returns-in-Err : goal.returns-in-Err
returns-in-Err c =
    let so = rw c.deref.ensures.value at c.in_ok-edges.ensures.edges in
    rw c.double_edge.ensures
    (refuses_double c.args.ids.now c.args.directed c.args.listed.items c.in_ok-edges.field-0.edges.items c.in-Err.unsorted c.requires.table.few c.requires.table.ascending so c.in-Err.ensures)

pub returns-in-Some : goal.returns-in-Some
returns-in-Some c =
    let so = rw c.deref.ensures.value at c.in_ok-edges.ensures.edges in
    let stop = rw (c.deref.ensures.value, c.in-Some.is) at c.in_ok-edges.ensures.stop in
    refuses_ends c.args.ids.now c.args.directed c.args.listed.items c.in_ok-edges.field-0.edges.items c.in-Ok.edges.items c.in-Some.fault c.requires.table.few c.requires.table.ascending so c.in-Ok.ensures.0 c.in-Ok.ensures.1 stop

pub returns-in-None : goal.returns-in-None
returns-in-None c =
    let so = rw c.deref.ensures.value at c.in_ok-edges.ensures.edges in
    let stop = rw (c.deref.ensures.value, c.in-None.is) at c.in_ok-edges.ensures.stop in
    edges_kept c.args.ids.now c.args.directed c.args.listed.items c.in_ok-edges.field-0.edges.items c.in-Ok.edges.items c.requires.table.few c.requires.table.ascending so stop c.in-Ok.ensures.0 c.in-Ok.ensures.1
