-- What the parts record, the cluster does.
use Rattle.std.proofs.Common.{ap, subst, ◌∙◌}
use Rattle.std.specs.Prelude.{IfOk, IsErrOf, OnOk}
use Rattle.cluster_step.specs.clusters.Clusters.{InEachCluster, StandsForSameSaving}
use Rattle.cluster_step.specs.clusters.Cuts.{RecordsCut}
use Rattle.gl_base.specs.declared.refusals.Refused.TheVariants.{NoMemory}
use Rattle.cluster_step.specs.clusters.Events.{CanTakePlace}
use Rattle.cluster_step.specs.declared.clusters.events.Event.TheVariants as event
use Rattle.cluster_step.specs.declared.clusters.events.Lead.TheVariants as lead
use Rattle.cluster_step.proofs.clusters.Stopping.{same_runs, some_same}
use Rattle.cluster_step.proofs.clusters.clusters.SnapCluster.record.Goals as goal

pub invariant_of-self : goal.invariant_of-self
invariant_of-self g c = some_same g.M.SavingMachine.represents c.self.inside.parts c.record.new.self c.self.invariant c.record.ensures.same

pub returns-clause-due : goal.returns-clause-due
returns-clause-due g c = subst (λ p. OnOk c.record.result (CanTakePlace g.M.SavingMachine.represents p (event.Lead lead.Record))) c.self.view_is c.record.ensures.due

pub returns-clause-stopped : goal.returns-clause-stopped
returns-clause-stopped g c = same_runs g.M.SavingMachine.represents c.self.inside.parts c.record.new.self c.self.invariant c.record.ensures.same ∙ ap (λ p. p.stopped) c.self.view_is

pub returns-clause-cut : goal.returns-clause-cut
returns-clause-cut g c = subst (λ p. IfOk c.record.result (λ made. InEachCluster g.M.SavingMachine.represents p (λ st own. RecordsCut st own made))) c.self.view_is c.record.ensures.cut

pub returns-clause-no_memory : goal.returns-clause-no_memory
returns-clause-no_memory g c = subst (λ p. IsErrOf c.record.result NoMemory → CanTakePlace g.M.SavingMachine.represents p (event.Lead lead.Record)) c.self.view_is c.record.ensures.no_memory

pub returns-clause-same : goal.returns-clause-same
returns-clause-same g c = subst (λ p. StandsForSameSaving g.M.SavingMachine.represents p c.record.new.self) c.self.view_is c.record.ensures.same
