-- The lock that the machine names, for each machine of the law.
use Rattle.gl_base.specs.declared.numbers.Vertex.{Vertex}
use Rattle.coordinator.specs.machine_api.Promises.{CanDo, CanGrantNone, Grant}
use Rattle.snapshot_machines.specs.locking.Machines.{IsLockingMachineOf}
use Rattle.snapshot_machines.proofs.locking.AnswerLemmas.{if_none, if_some, machine_stands}
use Rattle.snapshot_machines.proofs.locking.ScopeLemmas.{can_grant, can_not_grant}
use Rattle.std.proofs.Common.{refl}
use Rattle.snapshot_machines.proofs.locking.machines.LockingMachine.next_lock.Goals as goal

pub returns-clause-some : goal.returns-clause-some
returns-clause-some g c = rw (← c.self.view_is) (if_some c.next_grant.result _ (λ (x : Vertex). CanDo (IsLockingMachineOf g.P.Program.meaning) (record { machine = c.self.inside.machine; counts = c.self.inside.counts; window = c.self.inside.window; reports = c.self.inside.reports }) (Grant x.0)) c.next_grant.ensures.some (λ x may. can_grant g.P.Program.meaning (record { machine = c.self.inside.machine; counts = c.self.inside.counts; window = c.self.inside.window; reports = c.self.inside.reports }) x.0 may))

pub returns-clause-none : goal.returns-clause-none
returns-clause-none g c = rw (← c.self.view_is) (if_none c.next_grant.result _ (CanGrantNone (IsLockingMachineOf g.P.Program.meaning) (record { machine = c.self.inside.machine; counts = c.self.inside.counts; window = c.self.inside.window; reports = c.self.inside.reports })) c.next_grant.ensures.none (λ not v. can_not_grant g.P.Program.meaning (record { machine = c.self.inside.machine; counts = c.self.inside.counts; window = c.self.inside.window; reports = c.self.inside.reports }) v (not v)))

pub returns-clause-unchanged : goal.returns-clause-unchanged
returns-clause-unchanged g c = rw (← c.self.view_is) (machine_stands g.P.Program.meaning (record { machine = c.self.inside.machine; counts = c.self.inside.counts; window = c.self.inside.window; reports = c.self.inside.reports }) c.next_grant.new.self c.self.inside.reports c.next_grant.ensures.same refl)
