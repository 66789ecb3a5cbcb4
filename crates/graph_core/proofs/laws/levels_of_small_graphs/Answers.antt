use Rattle.graph_core.proofs.SmallGraphs.{path_levels, two_levels}
use Rattle.graph_core.proofs.laws.levels_of_small_graphs.Goals as goal

pub returns-clause-path : goal.returns-clause-path
returns-clause-path c = path_levels

pub returns-clause-two : goal.returns-clause-two
returns-clause-two c = two_levels
