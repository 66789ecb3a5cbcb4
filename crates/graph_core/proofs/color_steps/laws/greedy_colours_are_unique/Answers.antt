use Rattle.std.proofs.Common.{arith}
use Rattle.graph_core.specs.DataGraph.{size}
use Rattle.graph_core.proofs.color_steps.GreedyLaws.{greedy_same}
use Rattle.graph_core.proofs.color_steps.laws.greedy_colours_are_unique.Goals as goal

pub returns : goal.returns
returns c = λ g one other v is also l. greedy_same g one other is also (size g) (omega arith) v l
