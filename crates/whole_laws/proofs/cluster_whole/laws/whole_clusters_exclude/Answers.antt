-- Each scope holds the locks of its place, or neighbours are not of one colour.
use Rattle.whole_laws.proofs.cluster_whole.Wholeness.{is_exclusive}
use Rattle.whole_laws.proofs.cluster_whole.laws.whole_clusters_exclude.Goals as goal

pub returns : goal.returns
returns c = λ st cluster is whole. is_exclusive st is cluster whole
