use Rattle.std.proofs.Common.{false, ◌++◌, reverse}
use Rattle.graph_core.proofs.WalkLaws.{walk-append, walk-reverse}
use Rattle.graph_core.proofs.laws.joined_is_equivalence.Goals as goal

pub returns-clause-back : goal.returns-clause-back
returns-clause-back c = λ g a b (path, walk). (reverse path, walk-reverse g.edges a b path walk)

pub returns-clause-on : goal.returns-clause-on
returns-clause-on c = λ g a b d (path, walk) (more, on). (path ++ more, walk-append g.edges false a b d path more walk on)
