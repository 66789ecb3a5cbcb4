-- Replay goes entry by entry.
use Rattle.std.proofs.Common.{[], ◌∷◌}
use Rattle.seq_run.specs.Orders.{all_tasks}
use Rattle.full_scope.specs.FullStates.{full_start}
use Rattle.full_scope.proofs.FullGoingOn.{full_replay_from-append, full_tasks_from-append, fully_valid-append, fully_valid-front, fully_valid-back}
use Rattle.full_scope.proofs.laws.full_orders_go_on.Goals as goal

pub returns-clause-replay : goal.returns-clause-replay
returns-clause-replay c = λ g p order entry. full_replay_from-append g p (full_start g p) order (entry ∷ [])

pub returns-clause-tasks : goal.returns-clause-tasks
returns-clause-tasks c = λ g p order entry. full_tasks_from-append g p (full_start g p) (all_tasks g) order (entry ∷ [])

pub returns-clause-valid : goal.returns-clause-valid
returns-clause-valid c = λ g p order entry. (
  λ valid. (fully_valid-front g p (full_start g p) (all_tasks g) order (entry ∷ []) valid, (fully_valid-back g p (full_start g p) (all_tasks g) order (entry ∷ []) valid).0),
  λ both. fully_valid-append g p (full_start g p) (all_tasks g) order (entry ∷ []) both.0 (both.1, tt),
)
