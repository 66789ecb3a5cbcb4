-- Places exclude, and of them copies and numbers need no more.
use Rattle.cluster_laws.proofs.cluster_runs.Coherence.{coherent_next}
use Rattle.cluster_laws.proofs.cluster_runs.laws.actions_keep_coherence.Goals as goal

pub returns : goal.returns
returns c = λ st w action is locks coherent may. coherent_next st is locks w coherent action may
