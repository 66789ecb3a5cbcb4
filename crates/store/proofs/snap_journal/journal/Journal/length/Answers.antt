-- The gate stands behind the records.
use Rattle.std.proofs.Common.{◌≡◌, ◌+◌, ℕ, arith}
use Rattle.store.proofs.snap_journal.AppendLemmas.{settled_leaves}
use Rattle.store.proofs.snap_journal.journal.Journal.length.Goals as goal

behind : (gate size : ℕ) → gate ≡ 64 + size → gate + 1 ≡ 65 + size
behind gate size is = omega arith

pub returns-clause-stored : goal.returns-clause-stored
returns-clause-stored g c =
    let i = c.self.inside in
    rw (← c.self.view_is) (λ told well. behind i.gate _ (c.self.invariant.settled told well).place)

pub returns-clause-knows : goal.returns-clause-knows
returns-clause-knows g c =
    let i = c.self.inside in
    rw (← c.self.view_is) (λ told well.
    let settled = c.self.invariant.settled told well in
    record {
      snapshots = settled.counts;
      bytes = behind i.gate _ settled.place;
      durable = λ image left. settled_leaves i.header i.count i.gate (g.D.Disk.past i.disk) settled image left;
    })
