-- Each machine stands for that of the law.
use Rattle.std.proofs.Common.{ℕ, ◌<◌, length, subst, sym}
use Rattle.cluster_step.specs.clusters.Clusters.{InEachCluster}
use Rattle.cluster_step.proofs.clusters.Making.{machine_here}
use Rattle.cluster_step.proofs.clusters.clusters.SnapCluster.machine.Goals as goal

pub returns-clause-is : goal.returns-clause-is
returns-clause-is g c =
    let m = c.args.m.0 in
    let within = subst (λ p. m < length p.machines.items) (sym c.self.view_is) c.requires in
    subst (λ p. InEachCluster g.M.SavingMachine.represents p (λ st own. g.M.SavingMachine.represents st m (own.machine m) c.index.result.now)) c.self.view_is
    (λ st own setting of. machine_here g.M.SavingMachine.represents st setting c.self.inside.parts own of m (subst (λ (n : ℕ). m < n) of.many within) c.index.result.now c.index.ensures)
