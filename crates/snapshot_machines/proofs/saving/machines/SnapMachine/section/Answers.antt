use Rattle.snapshot_machines.proofs.saving.StayLemmas.{stays_sent}
use Rattle.snapshot_machines.proofs.saving.machines.SnapMachine.section.Goals as goal

pub invariant_of-self : goal.invariant_of-self
invariant_of-self g c =
    let m = c.self.inside in
    let e = c.section.ensures in
    stays_sent c.section.result m.core m.snaps c.section.new.snaps m.seen c.section.new.seen c.self.invariant e.sent e.unchanged e.seen
