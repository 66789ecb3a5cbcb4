-- Neither a machine has a task, nor will a message wake one.
use Rattle.cluster_laws.proofs.cluster_moves.NeverStuck.{no_task_left}
use Rattle.cluster_laws.proofs.cluster_moves.laws.over_is_finished.Goals as goal

pub returns : goal.returns
returns c = λ st w order replay over u within. no_task_left st w order replay over u within
