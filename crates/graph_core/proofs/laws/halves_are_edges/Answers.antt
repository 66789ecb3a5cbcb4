use Rattle.graph_core.proofs.VertexLaws.{half_is, half_in, halves_ascend}
use Rattle.graph_core.proofs.laws.halves_are_edges.Goals as goal

pub returns-clause-each : goal.returns-clause-each
returns-clause-each c = half_is

pub returns-clause-all : goal.returns-clause-all
returns-clause-all c = half_in

pub returns-clause-ascending : goal.returns-clause-ascending
returns-clause-ascending c = λ g v. halves_ascend g.directed v 0 g.edges
