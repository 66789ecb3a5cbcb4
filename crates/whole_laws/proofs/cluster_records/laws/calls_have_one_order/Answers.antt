-- From the same numbers on the same updates are as valid.
use Rattle.std.proofs.Common.{◌≡◌, ◌↔◌, subst, Bool, true}
use Rattle.cluster_laws.specs.cluster_core.Replays.{IsTask}
use Rattle.whole_laws.specs.cluster_whole.Views.{world_of}
use Rattle.whole_laws.proofs.cluster_records.Based.{call_numbers, call_stands, call_tasks, call_valid, snapshot_replayed, snapshot_valid}
use Rattle.whole_laws.proofs.cluster_records.laws.calls_have_one_order.Goals as goal

pub returns-clause-order : goal.returns-clause-order
returns-clause-order c = λ st cluster whole logged is account based. (
  call_valid st is cluster whole logged account based,
  call_stands st is cluster whole logged account based,
  call_numbers st is cluster whole logged account based,
  λ u low. subst (λ (b : Bool). (b ≡ true) ↔ IsTask st (world_of cluster) u) (call_tasks st is cluster whole logged account based u low) (whole.consistent.replay.tasks u low),
)

pub returns-clause-snapshots : goal.returns-clause-snapshots
returns-clause-snapshots c = λ st cluster whole logged snapshot is account based good.
    (snapshot_valid st is cluster whole logged account based snapshot good, snapshot_replayed st is cluster whole logged account based snapshot good)
