use Rattle.cluster_laws.proofs.interior_scopes.Running.{at_once_runs}
use Rattle.cluster_laws.proofs.interior_scopes.laws.at_once_is_a_run.Goals as goal

pub returns : goal.returns
returns c = λ st w a v is may. at_once_runs st is w a v may
