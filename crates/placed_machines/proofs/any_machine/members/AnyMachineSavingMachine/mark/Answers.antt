-- The snapshot update that was made, by the engine.
use Rattle.placed_machines.proofs.any_machine.members.AnyMachineSavingMachine.mark.Goals as goal

pub returns-in-Locking-clause-marked : goal.returns-in-Locking-clause-marked
returns-in-Locking-clause-marked g c = rw c.in-Locking.is c.mark.ensures.marked

pub returns-in-Locking-clause-not_now : goal.returns-in-Locking-clause-not_now
returns-in-Locking-clause-not_now g c = rw c.in-Locking.is c.mark.ensures.not_now

pub returns-in-Locking-clause-no_memory : goal.returns-in-Locking-clause-no_memory
returns-in-Locking-clause-no_memory g c = rw c.in-Locking.is c.mark.ensures.no_memory

pub returns-in-Locking-clause-unchanged : goal.returns-in-Locking-clause-unchanged
returns-in-Locking-clause-unchanged g c = rw c.in-Locking.is c.mark.ensures.unchanged

pub returns-in-Chromatic-clause-marked : goal.returns-in-Chromatic-clause-marked
returns-in-Chromatic-clause-marked g c = rw c.in-Chromatic.is c.mark-in-Chromatic.ensures.marked

pub returns-in-Chromatic-clause-not_now : goal.returns-in-Chromatic-clause-not_now
returns-in-Chromatic-clause-not_now g c = rw c.in-Chromatic.is c.mark-in-Chromatic.ensures.not_now

pub returns-in-Chromatic-clause-no_memory : goal.returns-in-Chromatic-clause-no_memory
returns-in-Chromatic-clause-no_memory g c = rw c.in-Chromatic.is c.mark-in-Chromatic.ensures.no_memory

pub returns-in-Chromatic-clause-unchanged : goal.returns-in-Chromatic-clause-unchanged
returns-in-Chromatic-clause-unchanged g c = rw c.in-Chromatic.is c.mark-in-Chromatic.ensures.unchanged
