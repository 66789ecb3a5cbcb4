-- Each event is a move of the core, and keeps windows and steps.
use Rattle.whole_laws.proofs.cluster_whole.Wholeness.{whole_kept}
use Rattle.whole_laws.proofs.cluster_whole.laws.events_keep_clusters_whole.Goals as goal

pub returns : goal.returns
returns c = λ st cluster event is may whole. whole_kept st is cluster whole event may
