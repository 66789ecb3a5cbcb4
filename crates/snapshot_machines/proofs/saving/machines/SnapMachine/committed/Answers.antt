use Rattle.snapshot_machines.proofs.saving.StayLemmas.{stays_committed}
use Rattle.snapshot_machines.proofs.saving.machines.SnapMachine.committed.Goals as goal

pub invariant_of-self : goal.invariant_of-self
invariant_of-self g c =
    let m = c.self.inside in
    let e = c.committed.ensures in
    stays_committed m.core c.committed.new.core m.snaps c.committed.new.snaps m.seen c.args.number c.self.invariant (e.orderly c.self.invariant.orderly) (e.places c.self.invariant.places) e.rest e.committed e.outside
