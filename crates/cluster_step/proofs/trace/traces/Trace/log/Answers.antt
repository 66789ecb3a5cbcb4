-- A machine's log is its part of what the last attempt made.
use Rattle.std.proofs.Common.{subst}
use Rattle.cluster_step.specs.clusters.Clusters.{InEachCluster}
use Rattle.cluster_step.proofs.trace.Calling.{logged, logged_of}
use Rattle.cluster_step.proofs.trace.traces.Trace.log.Goals as goal

pub returns-clause-log : goal.returns-clause-log
returns-clause-log g c = λ st o events cluster is.
    logged g.M.SavingMachine.represents c.args.self.now st o events cluster is c.args.m.0 c.machine.result.now c.log.result.now
    (subst (λ v. InEachCluster g.M.SavingMachine.represents v.now (λ st x. g.M.SavingMachine.represents st c.args.m.0 (x.machine c.args.m.0) c.machine.result.now)) c.self.view_is c.machine.ensures.is) c.log.ensures

pub returns-clause-made : goal.returns-clause-made
returns-clause-made g c = λ st o events cluster is call makes.
    logged_of g.M.SavingMachine.represents c.args.self.now st o events cluster is c.args.m.0 c.machine.result.now c.log.result.now
    (subst (λ v. InEachCluster g.M.SavingMachine.represents v.now (λ st x. g.M.SavingMachine.represents st c.args.m.0 (x.machine c.args.m.0) c.machine.result.now)) c.self.view_is c.machine.ensures.is) c.log.ensures call makes
