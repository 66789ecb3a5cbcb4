use Rattle.full_cluster.proofs.UpdateLemmas.{edges_left, edges_low, ends_low, numbers_left, row_long}
use Rattle.full_cluster.proofs.updates.update_at.Goals as goal

pub write_made-requires-clause-ends : goal.write_made-requires-clause-ends
write_made-requires-clause-ends g c = λ i low. ends_low c.args.division.now.graph.now c.args.division.now.built c.args.v.0 c.halves.result.now c.halves.ensures _ i c.requires.count low

pub write_made-requires-clause-edges : goal.write_made-requires-clause-edges
write_made-requires-clause-edges g c = λ i low. edges_low c.args.division.now.graph.now c.args.division.now.built c.args.v.0 c.halves.result.now c.halves.ensures _ i c.requires.edge_count low

pub write_made-requires-clause-row : goal.write_made-requires-clause-row
write_made-requires-clause-row g c =
    row_long c.args.division.now.graph.now c.args.division.now.built c.args.v.0 c.halves.result.now c.halves.ensures (g.P.FullProgram.meaning c.args.program.now) c.args.numbers.now c.args.edges.now c.requires.vertex c.in_ok-made.made.centre c.in_ok-made.made.row.items c.in_ok-made.ensures.made

pub returns-clause-numbers : goal.returns-clause-numbers
returns-clause-numbers g c =
    numbers_left c.args.division.now.graph.now c.args.division.now.built c.args.v.0 c.halves.result.now c.halves.ensures (g.P.FullProgram.meaning c.args.program.now) c.args.numbers.now c.args.edges.now c.requires.vertex c.in_ok-made.made.centre c.in_ok-made.made.row.items c.in_ok-made.ensures.made
    c.write_made.new.numbers c.requires.count c.write_made.ensures.count c.write_made.ensures.numbers

pub returns-clause-edges : goal.returns-clause-edges
returns-clause-edges g c =
    edges_left c.args.division.now.graph.now c.args.division.now.built c.args.v.0 c.halves.result.now c.halves.ensures (g.P.FullProgram.meaning c.args.program.now) c.args.numbers.now c.args.edges.now c.requires.vertex c.in_ok-made.made.centre c.in_ok-made.made.row.items c.in_ok-made.ensures.made
    c.write_made.new.edges c.requires.edge_count c.write_made.ensures.edge_count c.write_made.ensures.edges
