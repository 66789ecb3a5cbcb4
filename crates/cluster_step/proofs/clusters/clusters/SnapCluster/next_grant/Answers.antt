-- What the parts may do, the cluster may.
use Rattle.std.proofs.Common.{ap, subst, ◌∙◌}
use Rattle.std.specs.Prelude.{IfNone, IfSome}
use Rattle.gl_base.specs.declared.numbers.Vertex.{Vertex}
use Rattle.cluster_step.specs.clusters.Clusters.{StandsForSameSaving}
use Rattle.cluster_step.specs.clusters.Events.{CanNotTakePlace, CanTakePlace}
use Rattle.cluster_step.specs.declared.clusters.events.Event.TheVariants as event
use Rattle.cluster_step.specs.declared.clusters.events.Local.TheVariants as local
use Rattle.cluster_step.proofs.clusters.Stopping.{same_runs, some_same}
use Rattle.cluster_step.proofs.clusters.clusters.SnapCluster.next_grant.Goals as goal

pub invariant_of-self : goal.invariant_of-self
invariant_of-self g c = some_same g.M.SavingMachine.represents c.self.inside.parts c.next_grant.new.self c.self.invariant c.next_grant.ensures.same

pub returns-clause-some : goal.returns-clause-some
returns-clause-some g c =
    subst (λ p. IfSome c.next_grant.result (λ (x : Vertex). CanTakePlace g.M.SavingMachine.represents p (event.Local (local.Grant c.args.at x)))) c.self.view_is c.next_grant.ensures.some

pub returns-clause-same : goal.returns-clause-same
returns-clause-same g c = subst (λ p. StandsForSameSaving g.M.SavingMachine.represents p c.next_grant.new.self) c.self.view_is c.next_grant.ensures.same

pub returns-clause-none : goal.returns-clause-none
returns-clause-none g c =
    subst (λ p. IfNone c.next_grant.result ((x : Vertex) → CanNotTakePlace g.M.SavingMachine.represents p (event.Local (local.Grant c.args.at x)))) c.self.view_is c.next_grant.ensures.none

pub returns-clause-stopped : goal.returns-clause-stopped
returns-clause-stopped g c = same_runs g.M.SavingMachine.represents c.self.inside.parts c.next_grant.new.self c.self.invariant c.next_grant.ensures.same ∙ ap (λ p. p.stopped) c.self.view_is
