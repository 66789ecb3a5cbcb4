-- The call that waits is that of the law.
use Rattle.std.proofs.Common.{◌<◌, length, subst, sym}
use Rattle.std.specs.Prelude.{IsTrue, ◌↔◌}
use Rattle.cluster_laws.specs.cluster_model.Events.{HasNext}
use Rattle.cluster_step.specs.clusters.Clusters.{InEachCluster}
use Rattle.cluster_step.proofs.clusters.Next.{at_coordinator}
use Rattle.cluster_step.proofs.clusters.clusters.SnapCluster.call_waits.Goals as goal

pub returns : goal.returns
returns g c =
    let within = subst (λ p. c.args.to.0 < length p.machines.items) (sym c.self.view_is) c.requires in
    subst (λ p. InEachCluster g.M.SavingMachine.represents p (λ st own. IsTrue c.waits.result ↔ HasNext (own.coordinator.out c.args.to.0))) c.self.view_is
    (at_coordinator g.M.SavingMachine.represents c.self.inside.parts c.args.to.0 within c.waits.result c.waits.ensures)
