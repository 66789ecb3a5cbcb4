-- The update at once, and what is asked for behind it, for each machine of the law.
use Rattle.std.proofs.Common.{ap, subst, sym}
use Rattle.gl_base.specs.declared.numbers.Vertex.{Vertex}
use Rattle.local_graph.specs.Locals.{LocalView, place_at}
use Rattle.machine_core.proofs.machine_at_once.Numbers.{at_err}
use Rattle.snapshot_machines.specs.saving.Updates.{WaitsAt}
use Rattle.snapshot_machines.specs.locking.Eager.{FindsPick}
use Rattle.snapshot_machines.specs.locking.Machines.{LockingMachineView}
use Rattle.snapshot_machines.proofs.locking.EagerLemmas.{updated_found}
use Rattle.snapshot_machines.proofs.locking.StandLemmas.{reports_stand, roomier_stands}
use Rattle.snapshot_machines.proofs.locking.eager.LockingMachineEagerMachine.update_now.Goals as goal

pub returns-in_err-reserve-clause-unchanged : goal.returns-in_err-reserve-clause-unchanged
returns-in_err-reserve-clause-unchanged g c =
    let x : LockingMachineView g.row.P.Denot = record { machine = c.self.inside.machine; counts = c.self.inside.counts; window = c.self.inside.window; reports = c.self.inside.reports } in
    at_err c.from_residual.result (rw (← c.self.view_is) (reports_stand g.P.Program.meaning x c.reserve.new.self c.reserve.ensures.same))

pub place_of-place-requires : goal.place_of-place-requires
place_of-place-requires g c =
    let finds = subst (λ (y : LockingMachineView g.row.P.Denot). FindsPick y c.args.v) (sym c.self.view_is) c.requires in
    (finds.0.place, subst (λ (w : Vertex). WaitsAt c.self.inside.machine.core.numbers finds.0.place w) finds.1 finds.2.waits)

pub returns-in_err-update_found-clause-unchanged : goal.returns-in_err-update_found-clause-unchanged
returns-in_err-update_found-clause-unchanged g c =
    let x : LockingMachineView g.row.P.Denot = record { machine = c.self.inside.machine; counts = c.self.inside.counts; window = c.self.inside.window; reports = c.self.inside.reports } in
    let e = c.update_found.ensures in
    let err = c.in_err-update_found.ensures in
    at_err c.from_residual-in_err-update_found.result
    (rw (← c.self.view_is)
    (roomier_stands g.P.Program.meaning x c.update_found.new.self c.reserve.new.self c.reserve.ensures.same err.unchanged err.same err.tasks (λ v. ap (λ (l : LocalView). place_at l v) e.local) (ap (λ (l : LocalView). l.me) e.local) e.program e.settings))

pub returns-clause-updated : goal.returns-clause-updated
returns-clause-updated g c =
    let x : LockingMachineView g.row.P.Denot = record { machine = c.self.inside.machine; counts = c.self.inside.counts; window = c.self.inside.window; reports = c.self.inside.reports } in
    let core = c.update_found.ensures.order in
    let finds = subst (λ (y : LockingMachineView g.row.P.Denot). FindsPick y c.args.v) (sym c.self.view_is) c.requires in
    let e = c.update_found.ensures in
    let ok = c.in_ok-update_found.ensures in
    rw (← c.self.view_is)
    (updated_found g.P.Program.meaning x c.update_found.new.self c.reserve.new.self core.orderly core.outside finds.0 finds.2 c.args.v c.args.ticket finds.1 ok.updated ok.run ok.logged e.local
    e.program e.settings c.reserve.ensures.same c.ask.new.self c.ask.ensures)
