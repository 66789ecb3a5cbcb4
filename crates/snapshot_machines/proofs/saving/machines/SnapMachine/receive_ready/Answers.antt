use Rattle.std.proofs.Common.{ap, sym, subst}
use Rattle.machine_core.specs.declared.machine_parts.cores.Core.{Core}
use Rattle.snapshot_machines.proofs.saving.StayLemmas.{places_same, stays}
use Rattle.machine_core.specs.machine_scopes.Asking.{CanBecomeReady}
use Rattle.snapshot_machines.specs.saving.Machines.{IsOrderly, SnapMachineView}
use Rattle.snapshot_machines.proofs.saving.machines.SnapMachine.receive_ready.Goals as goal

pub invariant_of-self : goal.invariant_of-self
invariant_of-self g c =
    let m = c.self.inside in
    let e = c.receive_ready.ensures in
    stays m.core c.receive_ready.new.core m.snaps m.seen c.self.invariant e.orderly
    (places_same m.core c.receive_ready.new.core (ap (λ (x : Core). x.numbers) e.rest) (ap (λ (x : Core). x.by_place) e.rest) c.self.invariant.places)
    (ap (λ (x : Core). x.numbers.local) e.rest) (ap (λ (x : Core). x.terms) e.rest) (ap (λ (x : Core). x.numbers.tasks.outside) e.rest)

pub receive_ready-requires-clause-can : goal.receive_ready-requires-clause-can
receive_ready-requires-clause-can g c = subst (λ (x : SnapMachineView g.row.P.Denot). IsOrderly x.core → CanBecomeReady x.core c.args.scope) (sym c.self.view_is) c.requires c.self.invariant.orderly
