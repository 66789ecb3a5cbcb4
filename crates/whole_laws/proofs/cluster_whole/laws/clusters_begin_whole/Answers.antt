-- No scope is in any place, and nothing is under way.
use Rattle.whole_laws.proofs.cluster_whole.Wholeness.{recovered_whole}
use Rattle.whole_laws.proofs.cluster_whole.laws.clusters_begin_whole.Goals as goal

pub returns : goal.returns
returns c = λ st base cluster is coloured. recovered_whole st is coloured base cluster
