-- The vertex that was found is updated.
use Rattle.snapshot_machines.proofs.chromatic.AtOnceLemmas.{can_update}
use Rattle.snapshot_machines.proofs.chromatic.machines.ColorSnapMachine.update_at_once.Goals as goal

pub returns-in-Err-clause-no_memory : goal.returns-in-Err-clause-no_memory
returns-in-Err-clause-no_memory g c = λ is. can_update c.args.self.now c.in-Some.found c.in-Some.ensures.found
