-- None is due, and none is under way.
use Rattle.cluster_step.proofs.drive.SnapshotLemmas.{none_under, settled}
use Rattle.cluster_step.proofs.drive.asking.is_settled.Goals as goal

pub returns-in_default : goal.returns-in_default
returns-in_default g c = λ yes st o events x is stored.
    settled g.M.SavingMachine.represents c.args.trace.now st o events x is stored c.due.result c.due.ensures.due c.in_default.not-Snapshot
    (none_under c.coordinator.result.now c.args.trace.now.now.coordinator c.coordinator.ensures c.is_under_way.result c.is_under_way.ensures.is yes)
