-- Nothing is in flight.
use Rattle.cluster_laws.proofs.cluster_moves.CountedKept.{start_counted}
use Rattle.cluster_laws.proofs.cluster_moves.NeverStuck.{start_due}
use Rattle.cluster_laws.proofs.cluster_moves.laws.starts_are_counted.Goals as goal

pub returns-clause-counted : goal.returns-clause-counted
returns-clause-counted c = λ st w start. start_counted st w start

pub returns-clause-due : goal.returns-clause-due
returns-clause-due c = λ st w start. start_due st w start
