use Rattle.std.proofs.Common.{arith}
use Rattle.graph_core.proofs.VertexLaws.{degree_counts, degree_low}
use Rattle.graph_core.proofs.laws.degrees_count_neighbours.Goals as goal

pub returns-clause-count : goal.returns-clause-count
returns-clause-count c = degree_counts

pub returns-clause-low : goal.returns-clause-low
returns-clause-low c = degree_low

pub returns-clause-colours : goal.returns-clause-colours
returns-clause-colours c = λ g colour v so proper l. omega (arith, degree_low g v so l, proper.high v l)
