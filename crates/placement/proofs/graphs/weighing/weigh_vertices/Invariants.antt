use Rattle.placement.specs.graphs.Placed.{atom_numbers}
use Rattle.placement.specs.graphs.Inner.Weighing.{AreWeights}
use Rattle.placement.proofs.graphs.weighing.weigh_vertices.Given as goal

abbrev pub invariant-loop-v : goal.invariant-loop-v
invariant-loop-v l = AreWeights l.graph (atom_numbers l.of) l.v 0 l.weights
