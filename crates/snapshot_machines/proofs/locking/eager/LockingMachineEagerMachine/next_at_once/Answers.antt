-- The vertex that was found, for each machine of the law.
use Rattle.std.proofs.Common.{refl}
use Rattle.snapshot_machines.specs.locking.Machines.{LockingMachineView}
use Rattle.snapshot_machines.proofs.locking.AtOnceLemmas.{can_not_at_once}
use Rattle.snapshot_machines.proofs.locking.EagerLemmas.{found_begins}
use Rattle.snapshot_machines.proofs.locking.eager.LockingMachineEagerMachine.next_at_once.Goals as goal

pub returns-in-Some-clause-found : goal.returns-in-Some-clause-found
returns-in-Some-clause-found g c = rw (← c.self.view_is) (c.in-Some.found, refl, c.in-Some.ensures.found)

pub returns-in-Some-clause-can : goal.returns-in-Some-clause-can
returns-in-Some-clause-can g c =
    let x : LockingMachineView g.row.P.Denot = record { machine = c.self.inside.machine; counts = c.self.inside.counts; window = c.self.inside.window; reports = c.self.inside.reports } in
    rw (← c.self.view_is) (found_begins g.P.Program.meaning x c.find_at_once.ensures.order.orderly c.find_at_once.ensures.order.outside c.in-Some.found c.in-Some.ensures.found)

pub returns-in-None-clause-none : goal.returns-in-None-clause-none
returns-in-None-clause-none g c =
    let x : LockingMachineView g.row.P.Denot = record { machine = c.self.inside.machine; counts = c.self.inside.counts; window = c.self.inside.window; reports = c.self.inside.reports } in
    let core = c.find_at_once.ensures.order in
    rw (← c.self.view_is) (can_not_at_once g.P.Program.meaning x core.orderly core.places core.outside c.in-None.ensures.none)
