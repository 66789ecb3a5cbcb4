-- The update that was made, by the engine.
use Rattle.placed_machines.proofs.any_machine.members.AnyMachineSavingMachine.update.Goals as goal

pub returns-in-Locking-clause-updated : goal.returns-in-Locking-clause-updated
returns-in-Locking-clause-updated g c = rw c.in-Locking.is c.update.ensures.updated

pub returns-in-Locking-clause-not_now : goal.returns-in-Locking-clause-not_now
returns-in-Locking-clause-not_now g c = rw c.in-Locking.is c.update.ensures.not_now

pub returns-in-Locking-clause-no_memory : goal.returns-in-Locking-clause-no_memory
returns-in-Locking-clause-no_memory g c = rw c.in-Locking.is c.update.ensures.no_memory

pub returns-in-Locking-clause-unchanged : goal.returns-in-Locking-clause-unchanged
returns-in-Locking-clause-unchanged g c = rw c.in-Locking.is c.update.ensures.unchanged

pub returns-in-Chromatic-clause-updated : goal.returns-in-Chromatic-clause-updated
returns-in-Chromatic-clause-updated g c = rw c.in-Chromatic.is c.update-in-Chromatic.ensures.updated

pub returns-in-Chromatic-clause-not_now : goal.returns-in-Chromatic-clause-not_now
returns-in-Chromatic-clause-not_now g c = rw c.in-Chromatic.is c.update-in-Chromatic.ensures.not_now

pub returns-in-Chromatic-clause-no_memory : goal.returns-in-Chromatic-clause-no_memory
returns-in-Chromatic-clause-no_memory g c = rw c.in-Chromatic.is c.update-in-Chromatic.ensures.no_memory

pub returns-in-Chromatic-clause-unchanged : goal.returns-in-Chromatic-clause-unchanged
returns-in-Chromatic-clause-unchanged g c = rw c.in-Chromatic.is c.update-in-Chromatic.ensures.unchanged
