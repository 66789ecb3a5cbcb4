-- The message that was taken, by the engine.
use Rattle.std.proofs.lemmas.Option.{IfSome_then}
use Rattle.placed_machines.specs.any_machine.Machines.{Chromatic, IsChromaticMachineOf, IsAnyMachineOf, IsLockingMachineOf, Locking}
use Rattle.placed_machines.proofs.any_machine.CaseLemmas.{sent_as}
use Rattle.placed_machines.proofs.any_machine.members.AnyMachineSavingMachine.outbox_take.Goals as goal

pub returns-in-Locking-clause-taken : goal.returns-in-Locking-clause-taken
returns-in-Locking-clause-taken g c = rw c.in-Locking.is (IfSome_then c.outbox_take.result c.outbox_take.ensures.taken (λ one. sent_as (IsLockingMachineOf g.P.Program.meaning) (IsAnyMachineOf g.P.Program.meaning) c.in-Locking.machine c.outbox_take.new.self (Locking c.in-Locking.machine) (Locking c.outbox_take.new.self) (λ st a m is. is) (λ st a m is. is) c.args.to.0 one))

pub returns-in-Locking-clause-none : goal.returns-in-Locking-clause-none
returns-in-Locking-clause-none g c = rw c.in-Locking.is c.outbox_take.ensures.none

pub returns-in-Locking-clause-unchanged : goal.returns-in-Locking-clause-unchanged
returns-in-Locking-clause-unchanged g c = rw c.in-Locking.is c.outbox_take.ensures.unchanged

pub returns-in-Chromatic-clause-taken : goal.returns-in-Chromatic-clause-taken
returns-in-Chromatic-clause-taken g c = rw c.in-Chromatic.is (IfSome_then c.outbox_take-in-Chromatic.result c.outbox_take-in-Chromatic.ensures.taken (λ one. sent_as (IsChromaticMachineOf g.P.Program.meaning) (IsAnyMachineOf g.P.Program.meaning) c.in-Chromatic.machine c.outbox_take-in-Chromatic.new.self (Chromatic c.in-Chromatic.machine) (Chromatic c.outbox_take-in-Chromatic.new.self) (λ st a m is. is) (λ st a m is. is) c.args.to.0 one))

pub returns-in-Chromatic-clause-none : goal.returns-in-Chromatic-clause-none
returns-in-Chromatic-clause-none g c = rw c.in-Chromatic.is c.outbox_take-in-Chromatic.ensures.none

pub returns-in-Chromatic-clause-unchanged : goal.returns-in-Chromatic-clause-unchanged
returns-in-Chromatic-clause-unchanged g c = rw c.in-Chromatic.is c.outbox_take-in-Chromatic.ensures.unchanged
