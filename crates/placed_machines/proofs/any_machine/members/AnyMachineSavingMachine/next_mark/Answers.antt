-- The scope whose snapshot update may be made, by the engine.
use Rattle.placed_machines.proofs.any_machine.members.AnyMachineSavingMachine.next_mark.Goals as goal

pub returns-in-Locking-clause-some : goal.returns-in-Locking-clause-some
returns-in-Locking-clause-some g c = rw c.in-Locking.is c.next_mark.ensures.some

pub returns-in-Locking-clause-none : goal.returns-in-Locking-clause-none
returns-in-Locking-clause-none g c = rw c.in-Locking.is c.next_mark.ensures.none

pub returns-in-Chromatic-clause-some : goal.returns-in-Chromatic-clause-some
returns-in-Chromatic-clause-some g c = rw c.in-Chromatic.is c.next_mark-in-Chromatic.ensures.some

pub returns-in-Chromatic-clause-none : goal.returns-in-Chromatic-clause-none
returns-in-Chromatic-clause-none g c = rw c.in-Chromatic.is c.next_mark-in-Chromatic.ensures.none
