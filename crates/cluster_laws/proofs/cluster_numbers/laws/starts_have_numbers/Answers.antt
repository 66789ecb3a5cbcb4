-- Nothing is under way, and all have the numbers of the start.
use Rattle.cluster_laws.proofs.cluster_numbers.Starting.{copies_start, replay_start}
use Rattle.cluster_laws.proofs.cluster_numbers.laws.starts_have_numbers.Goals as goal

pub returns-clause-copies : goal.returns-clause-copies
returns-clause-copies c = λ st w is start. copies_start st is w start

pub returns-clause-replay : goal.returns-clause-replay
returns-clause-replay c = λ st w is start. replay_start st is w start
