use Rattle.cluster_laws.proofs.interior_scopes.Moving.{moves_end}
use Rattle.cluster_laws.proofs.interior_scopes.laws.moves_go_on.Goals as goal

pub returns : goal.returns
returns c = λ st moves actions old between move are may. moves_end st moves actions old between move are may
