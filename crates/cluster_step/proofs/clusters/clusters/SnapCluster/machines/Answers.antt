-- There are as many as in a cluster of the law.
use Rattle.std.proofs.Common.{◌≡◌, ◌<◌, ◌∙◌, length, rules, subst, sym}
use Rattle.cluster_step.proofs.clusters.clusters.SnapCluster.machines.Goals as goal

pub returns-clause-small : goal.returns-clause-small
returns-clause-small g c =
    let many : c.len.result ≡ length c.self.inside.parts.machines.items = search rules in
    subst (λ n. n < 65535) (sym (many ∙ c.self.invariant.3.many)) c.self.invariant.3.small
