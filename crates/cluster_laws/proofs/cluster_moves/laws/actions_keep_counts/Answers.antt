-- An admission counts one more, and an end one less.
use Rattle.cluster_laws.proofs.cluster_moves.CountedKept.{action_counted}
use Rattle.cluster_laws.proofs.cluster_moves.laws.actions_keep_counts.Goals as goal

pub returns : goal.returns
returns c = λ st w action stage places may counted. action_counted st w counted stage places action may
