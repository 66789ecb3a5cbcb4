use Rattle.graph_core.proofs.WalkLaws.{walk_stays}
use Rattle.graph_core.proofs.laws.walks_stay.Goals as goal

pub returns : goal.returns
returns c = λ g inside stays a v path walk here. walk_stays g.edges g.directed inside stays a v path walk here
