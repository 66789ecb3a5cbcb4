use Rattle.store.proofs.snap_journal.SurveyLemmas.{knows_still}
use Rattle.store.proofs.snap_journal.journal.Journal.last.Goals as goal

pub invariant_of-self : goal.invariant_of-self
invariant_of-self g c =
    let j = c.self.inside in
    knows_still _ j.header j.count j.gate j.failed j.failed (g.D.Disk.past j.disk) (g.D.Disk.past c.read_last.new.disk) c.if-self.false c.read_last.ensures.past c.self.invariant

pub invariant_of-self-in-Err : goal.invariant_of-self-in-Err
invariant_of-self-in-Err g c =
    let j = c.self.inside in
    knows_still _ j.header j.count j.gate j.failed c.is_disk_fault-self-inside.result (g.D.Disk.past j.disk) (g.D.Disk.past c.read_last.new.disk) c.if-self.false c.read_last.ensures.past c.self.invariant
