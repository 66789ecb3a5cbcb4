-- Nothing is under way, and no scope in any place.
use Rattle.cluster_laws.proofs.cluster_runs.Coherence.{start_coherent}
use Rattle.cluster_laws.proofs.cluster_runs.laws.starts_are_coherent.Goals as goal

pub returns : goal.returns
returns c = λ st w is start. start_coherent st is w start
