-- What the parts may do, the cluster may.
use Rattle.std.proofs.Common.{◌≡◌, false, subst}
use Rattle.std.specs.Prelude.{IsTrue}
use Rattle.cluster_step.specs.clusters.Clusters.{StandsForSameSaving}
use Rattle.cluster_step.specs.clusters.Events.{CanNotTakePlace, CanTakePlace}
use Rattle.cluster_step.specs.declared.clusters.events.Event.TheVariants as event
use Rattle.cluster_step.specs.declared.clusters.events.Local.TheVariants as local
use Rattle.cluster_step.proofs.clusters.Stopping.{some_same}
use Rattle.cluster_step.proofs.clusters.clusters.SnapCluster.has_section.Goals as goal

pub invariant_of-self : goal.invariant_of-self
invariant_of-self g c = some_same g.M.SavingMachine.represents c.self.inside.parts c.has_section.new.self c.self.invariant c.has_section.ensures.same

pub returns-clause-yes : goal.returns-clause-yes
returns-clause-yes g c = subst (λ p. IsTrue c.has_section.result → CanTakePlace g.M.SavingMachine.represents p (event.Local (local.Section c.args.at))) c.self.view_is c.has_section.ensures.yes

pub returns-clause-no : goal.returns-clause-no
returns-clause-no g c = subst (λ p. c.has_section.result ≡ false → CanNotTakePlace g.M.SavingMachine.represents p (event.Local (local.Section c.args.at))) c.self.view_is c.has_section.ensures.no

pub returns-clause-same : goal.returns-clause-same
returns-clause-same g c = subst (λ p. StandsForSameSaving g.M.SavingMachine.represents p c.has_section.new.self) c.self.view_is c.has_section.ensures.same
