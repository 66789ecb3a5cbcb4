-- The message tells in which stage its scope is.
use Rattle.cluster_laws.proofs.cluster_runs.Coherence.{coherent_front}
use Rattle.cluster_laws.proofs.cluster_runs.laws.coherent_clusters_receive.Goals as goal

pub returns : goal.returns
returns c = λ st w p q message behind is locks coherent first. coherent_front st is locks w coherent p q message behind first
