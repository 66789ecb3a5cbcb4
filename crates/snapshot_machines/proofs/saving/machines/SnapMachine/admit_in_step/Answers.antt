use Rattle.std.proofs.Common.{ap}
use Rattle.machine_core.specs.declared.machine_parts.cores.Core.{Core}
use Rattle.snapshot_machines.proofs.saving.StayLemmas.{admitted_outside, in_order, stays}
use Rattle.snapshot_machines.proofs.saving.machines.SnapMachine.admit_in_step.Goals as goal

pub invariant_of-self : goal.invariant_of-self
invariant_of-self g c =
    let m = c.self.inside in
    let e = c.admit_in_step.ensures in
    stays m.core c.admit_in_step.new.core m.snaps m.seen c.self.invariant e.orderly e.places e.local (ap (λ (n : Core). n.terms) e.rest)
    (admitted_outside c.admit_in_step.result m.core c.admit_in_step.new.core c.args.place c.args.snapshot e.admitted e.unchanged)

pub returns-clause-order : goal.returns-clause-order
returns-clause-order g c =
    let m = c.self.inside in
    rw (← c.self.view_is) (in_order m.core m.snaps m.seen c.self.invariant)
