-- What the cluster names is so of the course.
use Rattle.std.proofs.Common.{◌≡◌, subst}
use Rattle.std.specs.Prelude.{IfNone, IfSome}
use Rattle.gl_base.specs.declared.scopes.ScopeId.{ScopeId}
use Rattle.cluster_step.specs.clusters.Events.{CanNotTakePlace, CanTakePlace}
use Rattle.cluster_step.specs.declared.clusters.events.Event.TheVariants as event
use Rattle.cluster_step.specs.declared.clusters.events.Local.TheVariants as local
use Rattle.cluster_step.proofs.trace.traces.Trace.next_mark.Goals as goal

pub returns-clause-some : goal.returns-clause-some
returns-clause-some g c = subst (λ v. IfSome c.next_mark.result (λ s. CanTakePlace g.M.SavingMachine.represents v.now (event.Local (local.Mark s)))) c.self.view_is c.next_mark.ensures.some

pub returns-clause-none : goal.returns-clause-none
returns-clause-none g c =
    subst (λ v. IfNone c.next_mark.result ((s : ScopeId) → s.home ≡ c.args.at → CanNotTakePlace g.M.SavingMachine.represents v.now (event.Local (local.Mark s)))) c.self.view_is c.next_mark.ensures.none
