-- Only vertices are woken.
use Rattle.seq_run.proofs.GoingOn.{tasks_within}
use Rattle.seq_run.proofs.laws.tasks_are_vertices.Goals as goal

pub returns : goal.returns
returns c = λ g p is order u task. tasks_within g p is order u task
