-- The store takes one more, or no machine lacks one.
use Rattle.cluster_step.proofs.drive.SnapshotLemmas.{few_seen, takes_one}
use Rattle.cluster_step.proofs.drive.asking.lacks_no_snapshot.Goals as goal

pub returns-then-stored-lt-MAX_SNAPSHOTS : goal.returns-then-stored-lt-MAX_SNAPSHOTS
returns-then-stored-lt-MAX_SNAPSHOTS g c = λ yes st o events x is call makes stored.
    takes_one g.M.SavingMachine.represents c.args.trace.now st o events x is stored call
    (few_seen c.coordinator.result.now c.args.trace.now.now.coordinator c.coordinator.ensures c.stored.result c.stored.ensures c.if-stored-lt-MAX_SNAPSHOTS.true)

pub returns : goal.returns
returns g c = λ yes st o events x is call makes stored half many. makes.tells.unasked (c.asks_for_none.ensures yes st o events x is stored half)
