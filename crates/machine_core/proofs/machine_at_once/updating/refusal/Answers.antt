-- What the tasks pick may be updated at once.
use Rattle.machine_core.proofs.machine_at_once.Scopes.{can_update}
use Rattle.machine_core.proofs.machine_at_once.updating.refusal.Goals as goal

pub returns-in-Some-clause-no_memory : goal.returns-in-Some-clause-no_memory
returns-in-Some-clause-no_memory c = λ refused. can_update c.args.core.now c.in-Some.field-0 c.requires.orderly c.in-Some.ensures.found
