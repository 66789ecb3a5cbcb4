use Rattle.graph_core.proofs.color_steps.GreedyLaws.{greedy_proper}
use Rattle.graph_core.proofs.color_steps.laws.greedy_colours_are_proper.Goals as goal

pub returns : goal.returns
returns c = greedy_proper
