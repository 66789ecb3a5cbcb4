-- Where the waves have shown the end, the call leaves nothing.
use Rattle.std.proofs.Common.{subst, sym}
use Rattle.cluster_step.specs.trace.Traces.{IsTraceNow, newest_setting}
use Rattle.cluster_step.proofs.trace.Going.{setting_now}
use Rattle.cluster_step.proofs.trace.Settled.{ended_all}
use Rattle.cluster_step.proofs.trace.traces.Trace.leaves_nothing.Goals as goal

pub returns-clause-nothing : goal.returns-clause-nothing
returns-clause-nothing g c = λ yes st o events cluster is call makes.
    let here = subst (λ v. IsTraceNow g.M.SavingMachine.represents v st o events cluster) (sym c.self.view_is) is in
    let seen = c.has_seen_the_end.ensures yes (newest_setting st o events) cluster (setting_now st o events is.setting) here.code in
    record { tasks = makes.tells.tasks seen; unharmed = makes.tells.unharmed seen }

pub returns-clause-settled : goal.returns-clause-settled
returns-clause-settled g c = λ yes st o events cluster is takes.
    let here = subst (λ v. IsTraceNow g.M.SavingMachine.represents v st o events cluster) (sym c.self.view_is) is in
    let seen = c.has_seen_the_end.ensures yes (newest_setting st o events) cluster (setting_now st o events is.setting) here.code in
    ended_all g.M.SavingMachine.represents c.args.self.now st o events cluster is seen takes
