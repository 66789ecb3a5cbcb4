-- The update that was made at once, by the engine.
use Rattle.std.proofs.lemmas.Result.{IfOk-weaker}
use Rattle.placed_machines.specs.any_machine.Machines.{Chromatic, IsChromaticMachineOf, IsAnyMachineOf, IsLockingMachineOf, Locking}
use Rattle.placed_machines.proofs.any_machine.CaseLemmas.{updated_as}
use Rattle.placed_machines.proofs.any_machine.members.AnyMachineSavingMachine.update_at_once.Goals as goal

pub returns-in-Locking-clause-updated : goal.returns-in-Locking-clause-updated
returns-in-Locking-clause-updated g c = rw c.in-Locking.is (IfOk-weaker c.update_at_once.result _ _ (λ v. updated_as (IsLockingMachineOf g.P.Program.meaning) (IsAnyMachineOf g.P.Program.meaning) c.in-Locking.machine c.update_at_once.new.self (Locking c.in-Locking.machine) (Locking c.update_at_once.new.self) (λ st a m is. is) (λ st a m is. is) v.0 c.args.ticket) c.update_at_once.ensures.updated)

pub returns-in-Locking-clause-not_now : goal.returns-in-Locking-clause-not_now
returns-in-Locking-clause-not_now g c = rw c.in-Locking.is c.update_at_once.ensures.not_now

pub returns-in-Locking-clause-no_memory : goal.returns-in-Locking-clause-no_memory
returns-in-Locking-clause-no_memory g c = rw c.in-Locking.is c.update_at_once.ensures.no_memory

pub returns-in-Locking-clause-unchanged : goal.returns-in-Locking-clause-unchanged
returns-in-Locking-clause-unchanged g c = rw c.in-Locking.is c.update_at_once.ensures.unchanged

pub returns-in-Chromatic-clause-updated : goal.returns-in-Chromatic-clause-updated
returns-in-Chromatic-clause-updated g c = rw c.in-Chromatic.is (IfOk-weaker c.update_at_once-in-Chromatic.result _ _ (λ v. updated_as (IsChromaticMachineOf g.P.Program.meaning) (IsAnyMachineOf g.P.Program.meaning) c.in-Chromatic.machine c.update_at_once-in-Chromatic.new.self (Chromatic c.in-Chromatic.machine) (Chromatic c.update_at_once-in-Chromatic.new.self) (λ st a m is. is) (λ st a m is. is) v.0 c.args.ticket) c.update_at_once-in-Chromatic.ensures.updated)

pub returns-in-Chromatic-clause-not_now : goal.returns-in-Chromatic-clause-not_now
returns-in-Chromatic-clause-not_now g c = rw c.in-Chromatic.is c.update_at_once-in-Chromatic.ensures.not_now

pub returns-in-Chromatic-clause-no_memory : goal.returns-in-Chromatic-clause-no_memory
returns-in-Chromatic-clause-no_memory g c = rw c.in-Chromatic.is c.update_at_once-in-Chromatic.ensures.no_memory

pub returns-in-Chromatic-clause-unchanged : goal.returns-in-Chromatic-clause-unchanged
returns-in-Chromatic-clause-unchanged g c = rw c.in-Chromatic.is c.update_at_once-in-Chromatic.ensures.unchanged
