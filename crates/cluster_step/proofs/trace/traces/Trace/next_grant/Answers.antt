-- What the cluster names is so of the course, and the cluster is where it was.
use Rattle.std.proofs.Common.{subst}
use Rattle.std.specs.Prelude.{IfNone, IfSome}
use Rattle.gl_base.specs.declared.numbers.Vertex.{Vertex}
use Rattle.cluster_step.specs.clusters.Events.{CanNotTakePlace, CanTakePlace}
use Rattle.cluster_step.specs.declared.clusters.events.Event.TheVariants as event
use Rattle.cluster_step.specs.declared.clusters.events.Local.TheVariants as local
use Rattle.cluster_step.proofs.trace.Going.{attempt_seen, kept_same_seen, stays_seen}
use Rattle.cluster_step.proofs.trace.traces.Trace.next_grant.Goals as goal

pub invariant_of-self : goal.invariant_of-self
invariant_of-self g c = kept_same_seen g.M.SavingMachine.represents _ c.args.self.now c.self.view_is c.next_grant.new.self c.next_grant.ensures.same c.self.invariant c.next_grant.ensures.machines

pub returns-clause-some : goal.returns-clause-some
returns-clause-some g c = subst (λ v. IfSome c.next_grant.result (λ x. CanTakePlace g.M.SavingMachine.represents v.now (event.Local (local.Grant c.args.at x)))) c.self.view_is c.next_grant.ensures.some

pub returns-clause-none : goal.returns-clause-none
returns-clause-none g c =
    subst (λ v. IfNone c.next_grant.result ((x : Vertex) → CanNotTakePlace g.M.SavingMachine.represents v.now (event.Local (local.Grant c.args.at x)))) c.self.view_is c.next_grant.ensures.none

pub returns-clause-stays : goal.returns-clause-stays
returns-clause-stays g c = stays_seen g.M.SavingMachine.represents _ c.args.self.now c.self.view_is c.next_grant.new.self c.next_grant.ensures.same

pub returns-clause-same : goal.returns-clause-same
returns-clause-same g c = attempt_seen _ c.args.self.now c.self.view_is c.next_grant.new.self c.next_grant.ensures.machines c.next_grant.ensures.stopped
