use Rattle.cluster_laws.proofs.interior_scopes.Moving.{locked_turn, start_may}
use Rattle.cluster_laws.proofs.interior_scopes.laws.starts_may_update_at_once.Goals as goal

pub returns : goal.returns
returns c = λ st w v locking start within interior quiet room left. start_may st w v (locked_turn st w v locking start room) start within interior quiet left
