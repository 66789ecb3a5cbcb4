-- A message goes to a link of the cluster.
use Rattle.std.proofs.Common.{◌<◌, ◌≤◌, length, arith}
use Rattle.std.proofs.lemmas.Result.{on_err_weaker, on_ok_weaker}
use Rattle.full_laws.specs.FullActions.{Sends}
use Rattle.full_cluster.proofs.ClusterLemmas.{both_same, link_at, seat_at, sends_nothing, sent, still_cluster}
use Rattle.full_cluster.proofs.clusters.FullCluster.send.Goals as goal

pub returns-then-place-len-clause-not_now : goal.returns-then-place-len-clause-not_now
returns-then-place-len-clause-not_now c = λ st p w fits are refused has.
    let long = c.args.self.now.machines.ok.0 in
    let many = c.len.ensures in
    let outside = c.if-place-len.true in
    let all = are.count in
    let past : st.machines ≤ c.args.from.0 = omega (arith, long, many, outside, all) in
    sends_nothing st p w c.args.self.now.machines.items c.args.self.now.links.items c.args.self.now.next c.args.self.now.left c.args.from.0 c.args.to.0 are past has

pub returns-clause-applied : goal.returns-clause-applied
returns-clause-applied c = λ st p w fits are.
    let long = c.args.self.now.machines.ok.0 in
    let many = c.len.ensures in
    let inside = c.if-place-len.false in
    let low : c.args.from.0 < length c.args.self.now.machines.items = omega (arith, long, many, inside) in
    let all = are.count in
    let ways = are.link_count in
    let out : c.args.from.0 < length c.args.self.now.links.items = omega (arith, low, all, ways) in
    let seat = seat_at st p w c.args.self.now.machines.items c.args.self.now.links.items c.args.self.now.next c.args.self.now.left c.args.from.0 c.index_mut.result.now are low c.index_mut.ensures.value in
    let link = link_at st p w c.args.self.now.machines.items c.args.self.now.links.items c.args.self.now.next c.args.self.now.left c.args.from.0 c.index_mut-2.result.now are out c.index_mut-2.ensures.value in
    on_ok_weaker c.send.result
    (λ done. let after = sent st p w c.args.self.now.machines.items c.args.self.now.links.items c.args.self.now.next c.args.self.now.left c.args.from.0 c.args.to.0 c.index_mut.result.now c.send.new.self c.index_mut-2.result.now c.send.new.links low out are seat link c.send.ensures.still c.send.ensures.links_count done in
    record { may = after.0; after = after.1 })
    (c.send.ensures.sent st (w.part c.args.from.0) (w.link c.args.from.0) seat.is link.are)

pub returns-clause-unchanged : goal.returns-clause-unchanged
returns-clause-unchanged c = λ st p w fits are.
    let long = c.args.self.now.machines.ok.0 in
    let many = c.len.ensures in
    let inside = c.if-place-len.false in
    let low : c.args.from.0 < length c.args.self.now.machines.items = omega (arith, long, many, inside) in
    let all = are.count in
    let ways = are.link_count in
    let out : c.args.from.0 < length c.args.self.now.links.items = omega (arith, low, all, ways) in
    let seat = seat_at st p w c.args.self.now.machines.items c.args.self.now.links.items c.args.self.now.next c.args.self.now.left c.args.from.0 c.index_mut.result.now are low c.index_mut.ensures.value in
    let link = link_at st p w c.args.self.now.machines.items c.args.self.now.links.items c.args.self.now.next c.args.self.now.left c.args.from.0 c.index_mut-2.result.now are out c.index_mut-2.ensures.value in
    on_err_weaker c.send.result
    (λ same. both_same st p w c.args.self.now.machines.items c.args.self.now.links.items c.args.self.now.next c.args.self.now.left c.args.from.0 c.args.from.0 c.index_mut.result.now c.send.new.self c.index_mut-2.result.now c.send.new.links low out are seat link c.send.ensures.still c.send.ensures.links_count same)
    (c.send.ensures.unchanged st (w.part c.args.from.0) (w.link c.args.from.0) seat.is link.are)

pub returns-clause-cluster : goal.returns-clause-cluster
returns-clause-cluster c =
    let has = c.requires.cluster in
    still_cluster c.args.division.now c.args.terms has.setting has.program has.world (Sends c.args.from.0 c.args.to.0) _ c.send.result has.fits
    (returns-clause-applied c has.setting has.program has.world has.fits has.is) (returns-clause-unchanged c has.setting has.program has.world has.fits has.is)
