-- No word is on its way where none waits and none is on a link.
use Rattle.cluster_step.proofs.clusters.Words.{no_word}
use Rattle.cluster_step.proofs.clusters.clusters.SnapCluster.has_word.Goals as goal

pub returns : goal.returns
returns g c = λ st own setting of.
    no_word own c.args.at.0 c.call_waits-waits.result c.has_call-called.result c.has_report-reports.result c.has_report-reported.result
    (c.call_waits-waits.ensures st own setting of) (c.has_call-called.ensures st own setting of)
    (c.has_report-reports.ensures st c.args.at.0 (own.machine c.args.at.0) setting (c.machine.ensures.is st own setting of)) (c.has_report-reported.ensures st own setting of)
