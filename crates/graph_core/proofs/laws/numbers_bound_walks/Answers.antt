use Rattle.graph_core.proofs.WalkLaws.{walk_bounded}
use Rattle.graph_core.proofs.laws.numbers_bound_walks.Goals as goal

pub returns : goal.returns
returns c = λ g number cost up a v path walk. walk_bounded g.edges g.directed number cost up a v path walk
