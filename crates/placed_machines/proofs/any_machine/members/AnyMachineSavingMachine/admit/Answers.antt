-- A scope that set out, by the engine.
use Rattle.placed_machines.proofs.any_machine.members.AnyMachineSavingMachine.admit.Goals as goal

pub returns-in-Locking-clause-admitted : goal.returns-in-Locking-clause-admitted
returns-in-Locking-clause-admitted g c = rw c.in-Locking.is c.admit.ensures.admitted

pub returns-in-Locking-clause-not_now : goal.returns-in-Locking-clause-not_now
returns-in-Locking-clause-not_now g c = rw c.in-Locking.is c.admit.ensures.not_now

pub returns-in-Locking-clause-no_memory : goal.returns-in-Locking-clause-no_memory
returns-in-Locking-clause-no_memory g c = rw c.in-Locking.is c.admit.ensures.no_memory

pub returns-in-Locking-clause-unchanged : goal.returns-in-Locking-clause-unchanged
returns-in-Locking-clause-unchanged g c = rw c.in-Locking.is c.admit.ensures.unchanged

pub returns-in-Chromatic-clause-admitted : goal.returns-in-Chromatic-clause-admitted
returns-in-Chromatic-clause-admitted g c = rw c.in-Chromatic.is c.admit-in-Chromatic.ensures.admitted

pub returns-in-Chromatic-clause-not_now : goal.returns-in-Chromatic-clause-not_now
returns-in-Chromatic-clause-not_now g c = rw c.in-Chromatic.is c.admit-in-Chromatic.ensures.not_now

pub returns-in-Chromatic-clause-no_memory : goal.returns-in-Chromatic-clause-no_memory
returns-in-Chromatic-clause-no_memory g c = rw c.in-Chromatic.is c.admit-in-Chromatic.ensures.no_memory

pub returns-in-Chromatic-clause-unchanged : goal.returns-in-Chromatic-clause-unchanged
returns-in-Chromatic-clause-unchanged g c = rw c.in-Chromatic.is c.admit-in-Chromatic.ensures.unchanged
