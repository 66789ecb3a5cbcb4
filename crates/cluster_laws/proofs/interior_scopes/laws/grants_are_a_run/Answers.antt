use Rattle.cluster_laws.proofs.interior_scopes.InTurn.{grants_run}
use Rattle.cluster_laws.proofs.interior_scopes.laws.grants_are_a_run.Goals as goal

pub returns : goal.returns
returns c = λ st w a locks new are. grants_run st a new locks w are
