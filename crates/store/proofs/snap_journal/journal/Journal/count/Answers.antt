-- The journal knows its disk.
use Rattle.store.proofs.snap_journal.AppendLemmas.{settled_leaves}
use Rattle.store.proofs.snap_journal.journal.Journal.count.Goals as goal

pub returns-clause-durable : goal.returns-clause-durable
returns-clause-durable g c =
    let i = c.self.inside in
    rw (← c.self.view_is) (λ told well image left. settled_leaves i.header i.count i.gate (g.D.Disk.past i.disk) (c.self.invariant.settled told well) image left)
