-- A lock that was granted, by the engine.
use Rattle.placed_machines.proofs.any_machine.members.AnyMachineSavingMachine.grant.Goals as goal

pub returns-in-Locking-clause-granted : goal.returns-in-Locking-clause-granted
returns-in-Locking-clause-granted g c = rw c.in-Locking.is c.grant.ensures.granted

pub returns-in-Locking-clause-not_now : goal.returns-in-Locking-clause-not_now
returns-in-Locking-clause-not_now g c = rw c.in-Locking.is c.grant.ensures.not_now

pub returns-in-Locking-clause-no_memory : goal.returns-in-Locking-clause-no_memory
returns-in-Locking-clause-no_memory g c = rw c.in-Locking.is c.grant.ensures.no_memory

pub returns-in-Locking-clause-unchanged : goal.returns-in-Locking-clause-unchanged
returns-in-Locking-clause-unchanged g c = rw c.in-Locking.is c.grant.ensures.unchanged

pub returns-in-Chromatic-clause-granted : goal.returns-in-Chromatic-clause-granted
returns-in-Chromatic-clause-granted g c = rw c.in-Chromatic.is c.grant-in-Chromatic.ensures.granted

pub returns-in-Chromatic-clause-not_now : goal.returns-in-Chromatic-clause-not_now
returns-in-Chromatic-clause-not_now g c = rw c.in-Chromatic.is c.grant-in-Chromatic.ensures.not_now

pub returns-in-Chromatic-clause-no_memory : goal.returns-in-Chromatic-clause-no_memory
returns-in-Chromatic-clause-no_memory g c = rw c.in-Chromatic.is c.grant-in-Chromatic.ensures.no_memory

pub returns-in-Chromatic-clause-unchanged : goal.returns-in-Chromatic-clause-unchanged
returns-in-Chromatic-clause-unchanged g c = rw c.in-Chromatic.is c.grant-in-Chromatic.ensures.unchanged
