-- No news of a neighbour are on the way.
use Rattle.cluster_laws.proofs.cluster_numbers.Keeping.{update_fresh}
use Rattle.whole_laws.specs.cluster_whole.Views.{world_of}
use Rattle.whole_laws.proofs.cluster_whole.Wholeness.{is_exclusive}
use Rattle.whole_laws.proofs.cluster_whole.laws.whole_updates_are_fresh.Goals as goal

pub returns : goal.returns
returns c = λ st cluster whole s may is. update_fresh st is (world_of cluster) whole.consistent.order whole.consistent.copies whole.consistent.replay (is_exclusive st is cluster whole) s may
