-- No machine moved between the two waves.
use Rattle.whole_laws.proofs.cluster_ending.Finding.{left_finished, no_task_left, updates_told}
use Rattle.whole_laws.proofs.cluster_ending.laws.quiet_waves_leave_no_task.Goals as goal

pub returns-clause-tasks : goal.returns-clause-tasks
returns-clause-tasks c = λ st cluster watch was end. no_task_left st cluster watch was end

pub returns-clause-updates : goal.returns-clause-updates
returns-clause-updates c = λ st cluster watch a counts was end low come. updates_told st cluster watch was end a counts low come

pub returns-clause-order : goal.returns-clause-order
returns-clause-order c = λ st cluster is followed end. left_finished st is cluster followed.0 (no_task_left st cluster followed.1 followed.2 end)
