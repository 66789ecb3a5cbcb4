use Rattle.full_cluster.proofs.UpdateLemmas.{edges_low, ends_low, lead}
use Rattle.std.proofs.Common.{refl}
use Rattle.full_cluster.proofs.updates.make_update.Goals as goal

pub links_of-requires-clause-ends : goal.links_of-requires-clause-ends
links_of-requires-clause-ends g c = λ i low. ends_low c.args.division.now.graph.now c.args.division.now.built c.args.v.0 c.halves-halves.result.now c.halves-halves.ensures _ i refl low

pub links_of-requires-clause-lead : goal.links_of-requires-clause-lead
links_of-requires-clause-lead g c = lead c.args.division.now.graph.now c.args.division.now.built c.args.v.0 c.halves-halves.result.now c.halves-halves.ensures

pub row_along-requires-clause-ends : goal.row_along-requires-clause-ends
row_along-requires-clause-ends g c = λ i low. ends_low c.args.division.now.graph.now c.args.division.now.built c.args.v.0 c.halves-halves.result.now c.halves-halves.ensures _ i c.requires.count low

pub row_along-requires-clause-edges : goal.row_along-requires-clause-edges
row_along-requires-clause-edges g c = λ i low. edges_low c.args.division.now.graph.now c.args.division.now.built c.args.v.0 c.halves-halves.result.now c.halves-halves.ensures _ i c.requires.edge_count low

pub returns-clause-made : goal.returns-clause-made
returns-clause-made g c = c.make_along.ensures.made c.args.numbers.now c.args.edges.now c.in_ok-row.ensures refl

pub returns-clause-woken : goal.returns-clause-woken
returns-clause-woken g c = c.make_along.ensures.woken c.args.numbers.now c.args.edges.now c.in_ok-row.ensures refl
