-- What the cluster does is so of each course.
use Rattle.std.proofs.Common.{sym, ◌∙◌}
use Rattle.std.specs.Prelude.{Ok}
use Rattle.cluster_step.specs.declared.clusters.events.Event.TheVariants.{Lead}
use Rattle.cluster_step.specs.declared.clusters.events.Lead.TheVariants.{Record}
use Rattle.cluster_step.proofs.trace.Going.{attempt_anew, kept_anew, made_seen, record_free}
use Rattle.cluster_step.proofs.trace.traces.Trace.acknowledge.Goals as goal

pub invariant_of-self : goal.invariant_of-self
invariant_of-self g c = kept_anew g.M.SavingMachine.represents _ c.of.ensures (c.self.invariant.many ∙ sym c.acknowledge.ensures.machines)

pub returns-clause-made : goal.returns-clause-made
returns-clause-made g c =
    made_seen g.M.SavingMachine.represents _ c.args.self.now c.self.view_is c.of.result.value c.acknowledge.new.self (Lead Record) (record_free g.M.SavingMachine.represents c.args.self.now) (Ok tt) c.acknowledge.ensures.made

pub returns-clause-same : goal.returns-clause-same
returns-clause-same g c = attempt_anew _ c.args.self.now c.self.view_is c.of.result.value c.acknowledge.new.self c.acknowledge.ensures.machines c.acknowledge.ensures.stopped c.of.ensures
