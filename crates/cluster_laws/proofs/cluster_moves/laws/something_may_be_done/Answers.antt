-- A message, a ready scope, or the last lock for which a scope waits.
use Rattle.cluster_laws.proofs.cluster_moves.SomethingMoves.{moves}
use Rattle.cluster_laws.proofs.cluster_moves.laws.something_may_be_done.Goals as goal

pub returns : goal.returns
returns c = λ st w stage is places due ticket. moves st is w stage places due ticket
