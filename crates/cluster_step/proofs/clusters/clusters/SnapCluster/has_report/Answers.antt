-- The report on the link is that of the law.
use Rattle.std.proofs.Common.{◌<◌, length, subst, sym}
use Rattle.std.specs.Prelude.{IsTrue, ◌↔◌}
use Rattle.cluster_laws.specs.cluster_model.Events.{HasNext}
use Rattle.cluster_step.specs.clusters.Clusters.{InEachCluster}
use Rattle.cluster_step.proofs.clusters.Next.{on_report}
use Rattle.cluster_step.proofs.clusters.clusters.SnapCluster.has_report.Goals as goal

pub returns : goal.returns
returns g c =
    let within = subst (λ p. c.args.from.0 < length p.machines.items) (sym c.self.view_is) c.requires in
    subst (λ p. InEachCluster g.M.SavingMachine.represents p (λ st own. IsTrue c.has_message.result ↔ HasNext (own.reports c.args.from.0))) c.self.view_is
    (on_report g.M.SavingMachine.represents c.self.inside.parts c.lead.result.0 c.lead.ensures c.args.from.0 within c.has_message.result c.has_message.ensures)
