-- The vertex that was found.
use Rattle.std.proofs.Common.{refl}
use Rattle.snapshot_machines.proofs.chromatic.machines.ColorSnapMachine.next_at_once.Goals as goal

pub returns-in-Some-clause-found : goal.returns-in-Some-clause-found
returns-in-Some-clause-found g c = (c.in-Some.found, refl, c.in-Some.ensures.found)
