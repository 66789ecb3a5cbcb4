use Rattle.snapshot_machines.proofs.saving.StayLemmas.{in_order, stays_begun}
use Rattle.snapshot_machines.proofs.saving.machines.SnapMachine.begin.Goals as goal

pub invariant_of-self : goal.invariant_of-self
invariant_of-self g c =
    let m = c.self.inside in
    let e = c.begin.ensures in
    stays_begun m.core c.begin.new.core m.snaps c.begin.new.snaps m.seen c.begin.new.seen c.args.number c.self.invariant e.orderly e.places e.rest e.kept e.seen

pub returns-clause-order : goal.returns-clause-order
returns-clause-order g c =
    let m = c.self.inside in
    rw (← c.self.view_is) (in_order m.core m.snaps m.seen c.self.invariant)
