-- What the coordinator tells is so of the call.
use Rattle.std.proofs.Common.{subst}
use Rattle.coordinator.specs.coord_core.Calls.{IsDueOf}
use Rattle.cluster_step.proofs.trace.Calling.{has_ended, may_follow}
use Rattle.cluster_step.proofs.trace.Settled.{ended_due}
use Rattle.cluster_step.proofs.trace.traces.Trace.due.Goals as goal

pub returns-clause-ended : goal.returns-clause-ended
returns-clause-ended g c = λ ended st o events cluster is call makes.
    has_ended g.M.SavingMachine.represents c.args.self.now st o events cluster is c.due.result (subst (λ v. IsDueOf v.now.coordinator c.due.result) c.self.view_is c.due.ensures.due) call makes ended

pub returns-clause-settled : goal.returns-clause-settled
returns-clause-settled g c = λ ended st o events cluster is takes.
    ended_due g.M.SavingMachine.represents c.args.self.now st o events cluster is c.due.result (subst (λ v. IsDueOf v.now.coordinator c.due.result) c.self.view_is c.due.ensures.due) ended takes

pub returns-clause-pending : goal.returns-clause-pending
returns-clause-pending g c = λ k is_record st o events cluster is call makes.
    may_follow g.M.SavingMachine.represents c.args.self.now st o events cluster is c.due.result (subst (λ v. IsDueOf v.now.coordinator c.due.result) c.self.view_is c.due.ensures.due) call makes k is_record
