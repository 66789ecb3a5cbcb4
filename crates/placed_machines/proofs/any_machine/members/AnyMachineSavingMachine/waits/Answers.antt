-- Whether a message waits, by the engine.
use Rattle.placed_machines.proofs.any_machine.members.AnyMachineSavingMachine.waits.Goals as goal

pub returns-in-Locking : goal.returns-in-Locking
returns-in-Locking g c = rw c.in-Locking.is c.waits.ensures

pub returns-in-Chromatic : goal.returns-in-Chromatic
returns-in-Chromatic g c = rw c.in-Chromatic.is c.waits-in-Chromatic.ensures
