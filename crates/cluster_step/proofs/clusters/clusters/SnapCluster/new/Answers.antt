-- The cluster begins as the law's.
use Rattle.std.proofs.Common.{sym}
use Rattle.cluster_laws.specs.cluster_core.Recovering.{going_on}
use Rattle.cluster_laws.specs.cluster_model.Events.{recovers}
use Rattle.cluster_step.proofs.clusters.Cutting.{began_setting}
use Rattle.cluster_step.proofs.clusters.clusters.SnapCluster.new.Goals as goal

pub invariant_of-result : goal.invariant_of-result
invariant_of-result g c =
    let start = c.requires.start in (
      going_on start.0 start.1.numbers start.1.number,
      recovers start.0 start.1 start.2,
      began_setting start.0 start.3.setting start.1,
      c.in_ok-parts.ensures.began start.0 start.1 start.2 start.3,
    )

pub returns-clause-runs : goal.returns-clause-runs
returns-clause-runs g c =
    let start = c.requires.start in
    sym (c.in_ok-parts.ensures.began start.0 start.1 start.2 start.3).stopped
