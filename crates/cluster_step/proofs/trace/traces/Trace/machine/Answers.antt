-- Each machine stands for that of the law, in the setting of the newest attempt.
use Rattle.std.proofs.Common.{subst}
use Rattle.cluster_step.specs.clusters.Clusters.{InEachCluster}
use Rattle.cluster_step.specs.trace.Traces.{newest_setting}
use Rattle.cluster_step.proofs.trace.Going.{setting_now}
use Rattle.cluster_step.proofs.trace.traces.Trace.machine.Goals as goal

pub returns : goal.returns
returns g c = λ st o events own is.
    subst (λ v. InEachCluster g.M.SavingMachine.represents v.now (λ st x. g.M.SavingMachine.represents st c.args.m.0 (x.machine c.args.m.0) c.machine.result.now)) c.self.view_is c.machine.ensures.is
    (newest_setting st o events) own (setting_now st o events is.setting) is.code
