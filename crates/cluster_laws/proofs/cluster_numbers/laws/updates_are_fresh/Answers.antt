-- No news of a neighbour are on the way.
use Rattle.cluster_laws.proofs.cluster_numbers.Keeping.{update_fresh}
use Rattle.cluster_laws.proofs.cluster_numbers.laws.updates_are_fresh.Goals as goal

pub returns : goal.returns
returns c = λ st w order s may is apart copies replay. update_fresh st is w order copies replay apart s may
