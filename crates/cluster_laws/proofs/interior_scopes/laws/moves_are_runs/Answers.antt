use Rattle.cluster_laws.proofs.interior_scopes.Moving.{moves_run}
use Rattle.cluster_laws.proofs.interior_scopes.laws.moves_are_runs.Goals as goal

pub returns : goal.returns
returns c = λ st moves actions old new is are. moves_run st is moves actions old new are
