-- Only the end of a scope takes its vertex from the tasks and the pending ones.
use Rattle.cluster_laws.proofs.cluster_moves.DueKept.{action_due}
use Rattle.cluster_laws.proofs.cluster_moves.laws.actions_keep_due.Goals as goal

pub returns : goal.returns
returns c = λ st w action stage places may due. action_due w due st stage places action may
