-- The section that was put out, by the engine.
use Rattle.placed_machines.proofs.any_machine.members.AnyMachineSavingMachine.section.Goals as goal

pub returns-in-Locking-clause-sent : goal.returns-in-Locking-clause-sent
returns-in-Locking-clause-sent g c = rw c.in-Locking.is c.section.ensures.sent

pub returns-in-Locking-clause-not_now : goal.returns-in-Locking-clause-not_now
returns-in-Locking-clause-not_now g c = rw c.in-Locking.is c.section.ensures.not_now

pub returns-in-Locking-clause-no_memory : goal.returns-in-Locking-clause-no_memory
returns-in-Locking-clause-no_memory g c = rw c.in-Locking.is c.section.ensures.no_memory

pub returns-in-Locking-clause-unchanged : goal.returns-in-Locking-clause-unchanged
returns-in-Locking-clause-unchanged g c = rw c.in-Locking.is c.section.ensures.unchanged

pub returns-in-Chromatic-clause-sent : goal.returns-in-Chromatic-clause-sent
returns-in-Chromatic-clause-sent g c = rw c.in-Chromatic.is c.section-in-Chromatic.ensures.sent

pub returns-in-Chromatic-clause-not_now : goal.returns-in-Chromatic-clause-not_now
returns-in-Chromatic-clause-not_now g c = rw c.in-Chromatic.is c.section-in-Chromatic.ensures.not_now

pub returns-in-Chromatic-clause-no_memory : goal.returns-in-Chromatic-clause-no_memory
returns-in-Chromatic-clause-no_memory g c = rw c.in-Chromatic.is c.section-in-Chromatic.ensures.no_memory

pub returns-in-Chromatic-clause-unchanged : goal.returns-in-Chromatic-clause-unchanged
returns-in-Chromatic-clause-unchanged g c = rw c.in-Chromatic.is c.section-in-Chromatic.ensures.unchanged
