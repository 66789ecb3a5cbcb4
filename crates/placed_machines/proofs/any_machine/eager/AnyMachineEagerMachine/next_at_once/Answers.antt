-- The vertex that was found, by the engine.
use Rattle.placed_machines.proofs.any_machine.eager.AnyMachineEagerMachine.next_at_once.Goals as goal

pub returns-in-Locking-clause-found : goal.returns-in-Locking-clause-found
returns-in-Locking-clause-found g c = rw c.in-Locking.is c.next_at_once.ensures.found

pub returns-in-Locking-clause-can : goal.returns-in-Locking-clause-can
returns-in-Locking-clause-can g c = rw c.in-Locking.is c.next_at_once.ensures.can

pub returns-in-Locking-clause-none : goal.returns-in-Locking-clause-none
returns-in-Locking-clause-none g c = rw c.in-Locking.is c.next_at_once.ensures.none

pub returns-in-Chromatic-clause-found : goal.returns-in-Chromatic-clause-found
returns-in-Chromatic-clause-found g c = rw c.in-Chromatic.is c.next_at_once-in-Chromatic.ensures.found

pub returns-in-Chromatic-clause-can : goal.returns-in-Chromatic-clause-can
returns-in-Chromatic-clause-can g c = rw c.in-Chromatic.is c.next_at_once-in-Chromatic.ensures.can

pub returns-in-Chromatic-clause-none : goal.returns-in-Chromatic-clause-none
returns-in-Chromatic-clause-none g c = rw c.in-Chromatic.is c.next_at_once-in-Chromatic.ensures.none
