-- Each acknowledged snapshot is a cut.
use Rattle.std.proofs.Common.{◌∙◌, ap, sym}
use Rattle.cluster_step.proofs.clusters.Cutting.{snapshots_are_cuts}
use Rattle.cluster_step.proofs.clusters.clusters.SnapCluster.stored.Goals as goal

pub returns-clause-cuts : goal.returns-clause-cuts
returns-clause-cuts g c = λ st own setting of. snapshots_are_cuts g.M.SavingMachine.represents c.args.self.now st own setting of

pub returns-clause-number : goal.returns-clause-number
returns-clause-number g c = λ st own setting of taken. c.stored.ensures ∙ ap (λ p. p.coordinator.saving.acknowledged) c.self.view_is ∙ sym (of.coordinator.saving taken).acknowledged
