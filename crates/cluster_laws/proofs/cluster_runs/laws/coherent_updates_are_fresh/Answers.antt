-- No word of a neighbour's update is on the way.
use Rattle.cluster_laws.proofs.cluster_runs.Coherence.{coherent_fresh}
use Rattle.cluster_laws.proofs.cluster_runs.laws.coherent_updates_are_fresh.Goals as goal

pub returns : goal.returns
returns c = λ st w coherent s may is locks. coherent_fresh st is locks w coherent s may
