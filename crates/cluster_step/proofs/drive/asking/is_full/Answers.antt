-- The call needs more of the store.
use Rattle.cluster_step.proofs.drive.SnapshotLemmas.{many_seen, needs_more, one_under, taken_first, taken_seen}
use Rattle.cluster_step.proofs.drive.asking.is_full.Goals as goal

pub returns : goal.returns
returns g c = λ yes st o events x is call makes.
    let seen = c.coordinator-coordinator.result.now in
    let own = c.args.trace.now.now.coordinator in
    needs_more g.M.SavingMachine.represents c.args.trace.now st o events x is (taken_first g.M.SavingMachine.represents c.args.trace.now st o events x is (taken_seen seen own c.coordinator-coordinator.ensures (c.is_under_way.ensures.taken yes))) call makes
    (many_seen seen own c.coordinator-coordinator.ensures c.stored.result c.stored.ensures c.if-stored-lt-MAX_SNAPSHOTS.false) (one_under seen own c.coordinator-coordinator.ensures c.is_under_way.result c.is_under_way.ensures.is yes)
