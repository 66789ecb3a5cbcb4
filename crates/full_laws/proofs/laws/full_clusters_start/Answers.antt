-- No update was made, and nothing is under way.
use Rattle.full_laws.proofs.FullCoherence.{start_law}
use Rattle.full_laws.proofs.laws.full_clusters_start.Goals as goal

pub returns : goal.returns
returns c = λ st p w is start. start_law st is p w start
