-- What the parts may do, the cluster may.
use Rattle.std.proofs.Common.{◌≡◌, subst}
use Rattle.std.specs.Prelude.{IfNone, IfSome}
use Rattle.cluster_step.specs.clusters.Events.{CanNotTakePlace, CanTakePlace}
use Rattle.cluster_step.specs.declared.clusters.events.Event.TheVariants as event
use Rattle.cluster_step.specs.declared.clusters.events.Local.TheVariants as local
use Rattle.coordinator.specs.machine_api.Deeds.{ScopeId}
use Rattle.cluster_step.proofs.clusters.clusters.SnapCluster.next_mark.Goals as goal

pub returns-clause-none : goal.returns-clause-none
returns-clause-none g c =
    subst (λ p. IfNone c.next_mark.result ((s : ScopeId) → s.home ≡ c.args.at → CanNotTakePlace g.M.SavingMachine.represents p (event.Local (local.Mark s)))) c.self.view_is c.next_mark.ensures.none

pub returns-clause-some : goal.returns-clause-some
returns-clause-some g c = subst (λ p. IfSome c.next_mark.result (λ s. CanTakePlace g.M.SavingMachine.represents p (event.Local (local.Mark s)))) c.self.view_is c.next_mark.ensures.some
