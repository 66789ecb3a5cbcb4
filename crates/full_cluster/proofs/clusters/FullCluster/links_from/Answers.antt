-- The links of the cluster are read.
use Rattle.std.proofs.Common.{◌<◌, length, arith}
use Rattle.full_cluster.proofs.ClusterLemmas.{link_at}
use Rattle.full_cluster.proofs.clusters.FullCluster.links_from.Goals as goal

pub returns-clause-some : goal.returns-clause-some
returns-clause-some c = λ st p w are.
    let long = c.args.self.now.links.ok.0 in
    let many = c.len.ensures in
    let inside = c.if-place-len.false in
    let low : c.args.a.0 < length c.args.self.now.links.items = omega (arith, long, many, inside) in
    link_at st p w c.args.self.now.machines.items c.args.self.now.links.items c.args.self.now.next c.args.self.now.left c.args.a.0 c.index.result.now are low c.index.ensures

pub returns-then-place-len-clause-none : goal.returns-then-place-len-clause-none
returns-then-place-len-clause-none c = λ st p w are none.
    let long = c.args.self.now.links.ok.0 in
    let many = c.len.ensures in
    let outside = c.if-place-len.true in
    let all = are.link_count in
    omega (arith, long, many, outside, all)
