use Rattle.std.proofs.Common.{◌≤◌, ◌∙◌, arith}
use Rattle.std.proofs.lemmas.List.Sorted.{length_permutation, All-permutation}
use Rattle.std.proofs.lemmas.Result.{err_from_is_err_and}
use Rattle.gl_base.specs.declared.limits.TheConstants.{MAX_ID}
use Rattle.graph_core.proofs.VertexLemmas.{graph_fault_is}
use Rattle.graph_core.proofs.GraphLemmas.{Built, edges_len, built_is, built_kept}
use Rattle.graph_core.proofs.graph.Graph.build.Goals as goal

pub new-requires-clause-few : goal.new-requires-clause-few
new-requires-clause-few c =
    omega (arith, length_permutation _ _ c.in_ok-ids.ensures.0, c.deref.ensures.len)

pub new-requires-clause-ids : goal.new-requires-clause-ids
new-requires-clause-ids c =
    rw c.deref.ensures.value (All-permutation (λ id. id ≤ MAX_ID) _ _ c.in_ok-ids.ensures.0 c.requires.ids)

pub returns-in_err-edges-clause-fault : goal.returns-in_err-edges-clause-fault
returns-in_err-edges-clause-fault c =
    let p = err_from_is_err_and c.from_residual-in_err-edges.result c.from_residual-in_err-edges.ensures.1 in
    let ids = c.in_ok-ids.ensures in
    rw (p.1, p.2)
    (rw (graph_fault_is c.args.ids.items c.in_ok-ids.ids.items c.args.edges.items c.args.directed ids.0 ids.2, ← c.deref-2.ensures.value) c.in_err-edges.ensures)

pub half_rows-requires-clause-few_edges : goal.half_rows-requires-clause-few_edges
half_rows-requires-clause-few_edges c =
    let kept = rw c.deref-2.ensures.value at c.in_ok-edges.ensures in
    let built : Built c.args.ids.items c.in_ok-ids.ids.items c.args.edges.items c.args.directed c.in_ok-edges.edges.items =
    record { few = omega (arith, c.requires.few); few_edges = omega (arith, c.requires.few_edges); small = c.requires.ids; same = c.in_ok-ids.ensures.0; up = c.in_ok-ids.ensures.1; kept = kept } in
    omega (arith, edges_len _ _ _ _ _ built, c.deref-3.ensures.len, built.few_edges)

pub invariant_of-result : goal.invariant_of-result
invariant_of-result c =
    let kept = rw c.deref-2.ensures.value at c.in_ok-edges.ensures in
    let built : Built c.args.ids.items c.in_ok-ids.ids.items c.args.edges.items c.args.directed c.in_ok-edges.edges.items =
    record { few = omega (arith, c.requires.few); few_edges = omega (arith, c.requires.few_edges); small = c.requires.ids; same = c.in_ok-ids.ensures.0; up = c.in_ok-ids.ensures.1; kept = kept } in
    let found = rw c.deref.ensures.value at c.in_ok-table.ensures in
    let each = rw c.deref-3.ensures.value at c.in_ok-halves.ensures.each in
    built_kept _ _ _ _ _ c.in_ok-table.table c.in_ok-halves.halves built found (omega (arith, c.in_ok-halves.ensures.len)) (λ v l. each v (omega (arith, l)))

pub returns-clause-graph : goal.returns-clause-graph
returns-clause-graph c =
    let kept = rw c.deref-2.ensures.value at c.in_ok-edges.ensures in
    built_is c.args.ids.items c.in_ok-ids.ids.items c.args.edges.items c.args.directed c.in_ok-edges.edges.items
    (record { few = omega (arith, c.requires.few); few_edges = omega (arith, c.requires.few_edges); small = c.requires.ids; same = c.in_ok-ids.ensures.0; up = c.in_ok-ids.ensures.1; kept = kept })

pub returns-clause-no_fault : goal.returns-clause-no_fault
returns-clause-no_fault c =
    let kept = rw c.deref-2.ensures.value at c.in_ok-edges.ensures in
    graph_fault_is c.args.ids.items c.in_ok-ids.ids.items c.args.edges.items c.args.directed c.in_ok-ids.ensures.0 c.in_ok-ids.ensures.2 ∙ kept.no_fault
