-- What came from another machine, by the engine.
use Rattle.std.proofs.lemmas.Result.{on_ok_weaker}
use Rattle.placed_machines.specs.any_machine.Machines.{Chromatic, IsChromaticMachineOf, IsAnyMachineOf, IsLockingMachineOf, Locking}
use Rattle.placed_machines.proofs.any_machine.CaseLemmas.{may_receive, received_as}
use Rattle.placed_machines.proofs.any_machine.members.AnyMachineSavingMachine.receive.Goals as goal

pub receive-requires : goal.receive-requires
receive-requires g c = may_receive (IsAnyMachineOf g.P.Program.meaning) (IsLockingMachineOf g.P.Program.meaning) c.args.self.now c.in-Locking.machine (rw c.in-Locking.is (λ st a m is. is)) c.args.from.0 c.args.message c.requires

pub returns-in-Locking-clause-received : goal.returns-in-Locking-clause-received
returns-in-Locking-clause-received g c = rw c.in-Locking.is (on_ok_weaker c.receive.result (received_as (IsLockingMachineOf g.P.Program.meaning) (IsAnyMachineOf g.P.Program.meaning) c.in-Locking.machine c.receive.new.self (Locking c.in-Locking.machine) (Locking c.receive.new.self) (λ st a m is. is) (λ st a m is. is) c.args.from.0 c.args.message) c.receive.ensures.received)

pub returns-in-Locking-clause-unchanged : goal.returns-in-Locking-clause-unchanged
returns-in-Locking-clause-unchanged g c = rw c.in-Locking.is c.receive.ensures.unchanged

pub receive-requires-in-Chromatic : goal.receive-requires-in-Chromatic
receive-requires-in-Chromatic g c = may_receive (IsAnyMachineOf g.P.Program.meaning) (IsChromaticMachineOf g.P.Program.meaning) c.args.self.now c.in-Chromatic.machine (rw c.in-Chromatic.is (λ st a m is. is)) c.args.from.0 c.args.message c.requires

pub returns-in-Chromatic-clause-received : goal.returns-in-Chromatic-clause-received
returns-in-Chromatic-clause-received g c = rw c.in-Chromatic.is (on_ok_weaker c.receive-in-Chromatic.result (received_as (IsChromaticMachineOf g.P.Program.meaning) (IsAnyMachineOf g.P.Program.meaning) c.in-Chromatic.machine c.receive-in-Chromatic.new.self (Chromatic c.in-Chromatic.machine) (Chromatic c.receive-in-Chromatic.new.self) (λ st a m is. is) (λ st a m is. is) c.args.from.0 c.args.message) c.receive-in-Chromatic.ensures.received)

pub returns-in-Chromatic-clause-unchanged : goal.returns-in-Chromatic-clause-unchanged
returns-in-Chromatic-clause-unchanged g c = rw c.in-Chromatic.is c.receive-in-Chromatic.ensures.unchanged
