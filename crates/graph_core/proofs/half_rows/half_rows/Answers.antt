use Rattle.std.proofs.Common.{◌∙◌, ap, map, arith}
use Rattle.std.proofs.lemmas.Result.{IfOk-weaker}
use Rattle.graph_core.specs.DataGraph.{IsEdge}
use Rattle.graph_core.specs.Edges.{data_edge}
use Rattle.graph_core.specs.HalfRows.{data_half}
use Rattle.graph_core.proofs.HalfLemmas.{length-half_pairs, half_keys, halves_are}
use Rattle.graph_core.proofs.VertexLemmas.{all_unmapped}
use Rattle.graph_core.proofs.half_rows.half_rows.Goals as goal

pub group-requires-clause-few_items : goal.group-requires-clause-few_items
group-requires-clause-few_items c = omega (arith, length-half_pairs c.args.directed 0 c.args.edges.now)

pub group-requires-clause-keys : goal.group-requires-clause-keys
group-requires-clause-keys c =
    let right = all_unmapped (IsEdge c.args.count c.args.directed) data_edge c.args.edges.now c.requires.edges in
    half_keys c.args.directed 0 c.args.count c.args.edges.now (λ k d l. ((right k d l).from, (right k d l).to))

pub returns-clause-each : goal.returns-clause-each
returns-clause-each c =
    let right = all_unmapped (IsEdge c.args.count c.args.directed) data_edge c.args.edges.now c.requires.edges in
    IfOk-weaker c.group.result _ _ (λ rows each v l. ap (map data_half) (each v l) ∙ halves_are c.args.directed v 0 c.args.edges.now (λ k d m. (right k d m).apart)) c.group.ensures.each
