-- The lock that may be granted, by the engine.
use Rattle.placed_machines.proofs.any_machine.members.AnyMachineSavingMachine.next_grant.Goals as goal

pub returns-in-Locking-clause-some : goal.returns-in-Locking-clause-some
returns-in-Locking-clause-some g c = rw c.in-Locking.is c.next_grant.ensures.some

pub returns-in-Locking-clause-none : goal.returns-in-Locking-clause-none
returns-in-Locking-clause-none g c = rw c.in-Locking.is c.next_grant.ensures.none

pub returns-in-Locking-clause-unchanged : goal.returns-in-Locking-clause-unchanged
returns-in-Locking-clause-unchanged g c = rw c.in-Locking.is c.next_grant.ensures.unchanged

pub returns-in-Chromatic-clause-some : goal.returns-in-Chromatic-clause-some
returns-in-Chromatic-clause-some g c = rw c.in-Chromatic.is c.next_grant-in-Chromatic.ensures.some

pub returns-in-Chromatic-clause-none : goal.returns-in-Chromatic-clause-none
returns-in-Chromatic-clause-none g c = rw c.in-Chromatic.is c.next_grant-in-Chromatic.ensures.none

pub returns-in-Chromatic-clause-unchanged : goal.returns-in-Chromatic-clause-unchanged
returns-in-Chromatic-clause-unchanged g c = rw c.in-Chromatic.is c.next_grant-in-Chromatic.ensures.unchanged
