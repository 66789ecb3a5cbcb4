use Rattle.graph_core.specs.DataGraph.{size}
use Rattle.placement.specs.graphs.Placed.{atom_numbers}
use Rattle.placement.specs.graphs.Inner.Weighing.{AreWeights}
use Rattle.placement.proofs.graphs.weighing.weigh_edges.Given as goal

abbrev pub invariant-loop-e : goal.invariant-loop-e
invariant-loop-e l = AreWeights l.graph (atom_numbers l.of) (size l.graph) l.e l.weights
