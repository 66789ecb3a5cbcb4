use Rattle.graph_core.proofs.WalkLaws.{walk-append, walk-reverse}
use Rattle.graph_core.proofs.laws.walks_join.Goals as goal

pub returns-clause-append : goal.returns-clause-append
returns-clause-append c = walk-append

pub returns-clause-back : goal.returns-clause-back
returns-clause-back c = walk-reverse
