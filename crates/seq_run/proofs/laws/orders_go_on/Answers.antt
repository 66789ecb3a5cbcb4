-- Replay goes entry by entry.
use Rattle.std.proofs.Common.{[], ◌∷◌}
use Rattle.seq_run.specs.States.{start_state}
use Rattle.seq_run.specs.Orders.{all_tasks}
use Rattle.seq_run.proofs.GoingOn.{replay_from-append, tasks_from-append, valid_append, valid_front, valid_back, updates_from-push, updates_from-restart}
use Rattle.seq_run.proofs.laws.orders_go_on.Goals as goal

pub returns-clause-replay : goal.returns-clause-replay
returns-clause-replay c = λ g p order entry. replay_from-append g p (start_state g p) order (entry ∷ [])

pub returns-clause-tasks : goal.returns-clause-tasks
returns-clause-tasks c = λ g p order entry. tasks_from-append g p (start_state g p) (all_tasks g) order (entry ∷ [])

pub returns-clause-valid : goal.returns-clause-valid
returns-clause-valid c = λ g p order entry. (
  λ valid. (valid_front g p (start_state g p) (all_tasks g) order (entry ∷ []) valid, (valid_back g p (start_state g p) (all_tasks g) order (entry ∷ []) valid).0),
  λ both. valid_append g p (start_state g p) (all_tasks g) order (entry ∷ []) both.0 (both.1, tt),
)

pub returns-clause-update : goal.returns-clause-update
returns-clause-update c = λ order ticket machine vertex. updates_from-push 0 order ticket machine vertex

pub returns-clause-restart : goal.returns-clause-restart
returns-clause-restart c = λ order ticket. updates_from-restart 0 order ticket
