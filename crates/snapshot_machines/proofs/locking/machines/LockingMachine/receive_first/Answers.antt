-- What machines tell each other, by its kind.
use Rattle.std.proofs.Common.{refl, subst}
use Rattle.coordinator.specs.machine_api.Promises.{MayReceiveFirst}
use Rattle.snapshot_machines.specs.locking.Machines.{IsLockingMachineOf}
use Rattle.snapshot_machines.proofs.locking.machines.LockingMachine.receive_first.Goals as goal

pub receive_ask-requires : goal.receive_ask-requires
receive_ask-requires g c = subst (λ m. MayReceiveFirst (IsLockingMachineOf g.P.Program.meaning) c.args.self.now c.args.from.0 m) c.in-Ask.is c.requires

pub receive_ready-requires : goal.receive_ready-requires
receive_ready-requires g c = subst (λ m. MayReceiveFirst (IsLockingMachineOf g.P.Program.meaning) c.args.self.now c.args.from.0 m) c.in-Ready.is c.requires

pub receive_done-requires : goal.receive_done-requires
receive_done-requires g c = subst (λ m. MayReceiveFirst (IsLockingMachineOf g.P.Program.meaning) c.args.self.now c.args.from.0 m) c.in-Done.is c.requires

pub returns-in-Ask-clause-received : goal.returns-in-Ask-clause-received
returns-in-Ask-clause-received g c = rw c.in-Ask.is c.receive_ask.ensures.received

pub returns-in-Ask-clause-returned : goal.returns-in-Ask-clause-returned
returns-in-Ask-clause-returned g c = rw c.in-Ask.is c.receive_ask.ensures.returned

pub returns-in-Ask-clause-unchanged : goal.returns-in-Ask-clause-unchanged
returns-in-Ask-clause-unchanged g c = c.receive_ask.ensures.unchanged

pub returns-in-Ready-clause-received : goal.returns-in-Ready-clause-received
returns-in-Ready-clause-received g c = rw c.in-Ready.is c.receive_ready.ensures

pub returns-in-Done-clause-received : goal.returns-in-Done-clause-received
returns-in-Done-clause-received g c = rw c.in-Done.is c.receive_done.ensures

pub returns-in_default : goal.returns-in_default
returns-in_default g c = record { received = tt; returned = refl; unchanged = λ st a m snap is. is }
