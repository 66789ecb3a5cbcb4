-- A base to which a recovery goes back is good where the one before was.
use Rattle.cluster_step.proofs.clusters.Ordering.{good_bases}
use Rattle.cluster_step.proofs.clusters.laws.bases_stay_good.Goals as goal

pub returns : goal.returns
returns c = λ st base first own events is coloured its trace. good_bases st base first own events is coloured its trace
