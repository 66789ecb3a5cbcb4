-- What the cluster answers is so of each course.
use Rattle.cluster_step.specs.declared.clusters.events.Event.TheVariants.{Lead}
use Rattle.cluster_step.specs.declared.clusters.events.Lead.TheVariants.{Record}
use Rattle.cluster_step.proofs.trace.Calling.{record_is}
use Rattle.cluster_step.proofs.trace.Going.{attempt_seen, can_seen, cannot_seen, kept_same_seen, on_ok, record_free, stays_seen}
use Rattle.cluster_step.proofs.trace.traces.Trace.record.Goals as goal

pub invariant_of-self : goal.invariant_of-self
invariant_of-self g c = kept_same_seen g.M.SavingMachine.represents _ c.args.self.now c.self.view_is c.record.new.self c.record.ensures.same c.self.invariant c.record.ensures.machines

pub returns-clause-is : goal.returns-clause-is
returns-clause-is g c = record_is g.M.SavingMachine.represents _ c.args.self.now c.self.view_is c.record.result c.record.ensures.cut

pub returns-clause-due : goal.returns-clause-due
returns-clause-due g c =
    on_ok c.record.result (λ can. can_seen g.M.SavingMachine.represents _ c.args.self.now c.self.view_is c.self.inside.since.value c.record.new.self (Lead Record) (record_free g.M.SavingMachine.represents c.args.self.now) can) c.record.ensures.due

pub returns-clause-not_now : goal.returns-clause-not_now
returns-clause-not_now g c is = cannot_seen g.M.SavingMachine.represents _ c.args.self.now c.self.view_is c.self.inside.since.value c.record.new.self (Lead Record) (c.record.ensures.not_now is)

pub returns-clause-no_memory : goal.returns-clause-no_memory
returns-clause-no_memory g c is = can_seen g.M.SavingMachine.represents _ c.args.self.now c.self.view_is c.self.inside.since.value c.record.new.self (Lead Record) (record_free g.M.SavingMachine.represents c.args.self.now) (c.record.ensures.no_memory is)

pub returns-clause-stays : goal.returns-clause-stays
returns-clause-stays g c = stays_seen g.M.SavingMachine.represents _ c.args.self.now c.self.view_is c.record.new.self c.record.ensures.same

pub returns-clause-same : goal.returns-clause-same
returns-clause-same g c = attempt_seen _ c.args.self.now c.self.view_is c.record.new.self c.record.ensures.machines c.record.ensures.stopped
