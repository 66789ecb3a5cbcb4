-- Whether the section may be put out, by the engine.
use Rattle.placed_machines.proofs.any_machine.members.AnyMachineSavingMachine.has_section.Goals as goal

pub returns-in-Locking-clause-section : goal.returns-in-Locking-clause-section
returns-in-Locking-clause-section g c = rw c.in-Locking.is c.has_section.ensures.section

pub returns-in-Locking-clause-unchanged : goal.returns-in-Locking-clause-unchanged
returns-in-Locking-clause-unchanged g c = rw c.in-Locking.is c.has_section.ensures.unchanged

pub returns-in-Chromatic-clause-section : goal.returns-in-Chromatic-clause-section
returns-in-Chromatic-clause-section g c = rw c.in-Chromatic.is c.has_section-in-Chromatic.ensures.section

pub returns-in-Chromatic-clause-unchanged : goal.returns-in-Chromatic-clause-unchanged
returns-in-Chromatic-clause-unchanged g c = rw c.in-Chromatic.is c.has_section-in-Chromatic.ensures.unchanged
