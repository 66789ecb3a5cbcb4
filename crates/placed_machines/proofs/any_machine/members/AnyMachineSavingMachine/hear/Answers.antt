-- What came from the coordinator, by the engine.
use Rattle.std.proofs.lemmas.Result.{on_ok_weaker}
use Rattle.placed_machines.specs.any_machine.Machines.{Chromatic, IsChromaticMachineOf, IsAnyMachineOf, IsLockingMachineOf, Locking}
use Rattle.placed_machines.proofs.any_machine.CaseLemmas.{heard_as, may_hear}
use Rattle.placed_machines.proofs.any_machine.members.AnyMachineSavingMachine.hear.Goals as goal

pub hear-requires : goal.hear-requires
hear-requires g c = may_hear (IsAnyMachineOf g.P.Program.meaning) (IsLockingMachineOf g.P.Program.meaning) c.args.self.now c.in-Locking.machine (rw c.in-Locking.is (λ st a m is. is)) c.args.message c.requires

pub returns-in-Locking-clause-heard : goal.returns-in-Locking-clause-heard
returns-in-Locking-clause-heard g c = rw c.in-Locking.is (on_ok_weaker c.hear.result (heard_as (IsLockingMachineOf g.P.Program.meaning) (IsAnyMachineOf g.P.Program.meaning) c.in-Locking.machine c.hear.new.self (Locking c.in-Locking.machine) (Locking c.hear.new.self) (λ st a m is. is) (λ st a m is. is) c.args.message) c.hear.ensures.heard)

pub returns-in-Locking-clause-unchanged : goal.returns-in-Locking-clause-unchanged
returns-in-Locking-clause-unchanged g c = rw c.in-Locking.is c.hear.ensures.unchanged

pub hear-requires-in-Chromatic : goal.hear-requires-in-Chromatic
hear-requires-in-Chromatic g c = may_hear (IsAnyMachineOf g.P.Program.meaning) (IsChromaticMachineOf g.P.Program.meaning) c.args.self.now c.in-Chromatic.machine (rw c.in-Chromatic.is (λ st a m is. is)) c.args.message c.requires

pub returns-in-Chromatic-clause-heard : goal.returns-in-Chromatic-clause-heard
returns-in-Chromatic-clause-heard g c = rw c.in-Chromatic.is (on_ok_weaker c.hear-in-Chromatic.result (heard_as (IsChromaticMachineOf g.P.Program.meaning) (IsAnyMachineOf g.P.Program.meaning) c.in-Chromatic.machine c.hear-in-Chromatic.new.self (Chromatic c.in-Chromatic.machine) (Chromatic c.hear-in-Chromatic.new.self) (λ st a m is. is) (λ st a m is. is) c.args.message) c.hear-in-Chromatic.ensures.heard)

pub returns-in-Chromatic-clause-unchanged : goal.returns-in-Chromatic-clause-unchanged
returns-in-Chromatic-clause-unchanged g c = rw c.in-Chromatic.is c.hear-in-Chromatic.ensures.unchanged
