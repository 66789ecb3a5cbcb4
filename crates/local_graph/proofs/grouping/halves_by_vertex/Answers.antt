use Rattle.std.proofs.Common.{◌∙◌, arith}
use Rattle.local_graph.proofs.EndLemmas.{length-end_pairs, end_keys, ends_at}
use Rattle.local_graph.proofs.grouping.halves_by_vertex.Goals as goal

pub group-requires-clause-few_items : goal.group-requires-clause-few_items
group-requires-clause-few_items c = let h = c.args.ends.now in omega (arith, length-end_pairs h.directed h.none h.edges.now, h.few)

pub group-requires-clause-keys : goal.group-requires-clause-keys
group-requires-clause-keys c = let h = c.args.ends.now in end_keys h.directed h.none h.edges.now

pub returns-clause-each : goal.returns-clause-each
returns-clause-each c = λ v low.
    let h = c.args.ends.now in
    c.in_ok-rows.ensures.each v (omega arith) ∙ ends_at h.directed h.none v h.edges.now low
