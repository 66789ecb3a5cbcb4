-- A message of a link of the cluster is received.
use Rattle.std.proofs.Common.{◌<◌, ◌≤◌, length, arith}
use Rattle.std.proofs.lemmas.Result.{on_err_weaker, on_ok_weaker}
use Rattle.full_laws.specs.FullActions.{Delivers}
use Rattle.full_cluster.proofs.ClusterLemmas.{both_same, brings_nothing, delivered, gives_here, link_at, reached_coherent, reaches_nothing, seat_at, seat_own, still_cluster}
use Rattle.full_cluster.proofs.CoherentLemmas.{receivable}
use Rattle.full_cluster.proofs.clusters.FullCluster.deliver.Goals as goal

pub returns-then-place-len-clause-not_now : goal.returns-then-place-len-clause-not_now
returns-then-place-len-clause-not_now c = λ st p w fits are refused has.
    let long = c.args.self.now.machines.ok.0 in
    let many = c.len.ensures in
    let outside = c.if-place-len.true in
    let all = are.count in
    let past : st.machines ≤ c.args.to.0 = omega (arith, long, many, outside, all) in
    reaches_nothing st p w c.args.self.now.machines.items c.args.self.now.links.items c.args.self.now.next c.args.self.now.left c.args.from.0 c.args.to.0 are past has

pub returns-then-source-len-clause-not_now : goal.returns-then-source-len-clause-not_now
returns-then-source-len-clause-not_now c = λ st p w fits are refused has.
    let long = c.args.self.now.links.ok.0 in
    let many = c.len-2.ensures in
    let outside = c.if-source-len.true in
    let all = are.link_count in
    let past : st.machines ≤ c.args.from.0 = omega (arith, long, many, outside, all) in
    brings_nothing st p w c.args.self.now.machines.items c.args.self.now.links.items c.args.self.now.next c.args.self.now.left c.args.from.0 c.args.to.0 are past has

pub deliver-requires-clause-receivable : goal.deliver-requires-clause-receivable
deliver-requires-clause-receivable c = λ message one.
    let has = c.requires.cluster in
    let long = c.args.self.now.machines.ok.0 in
    let many = c.len.ensures in
    let inside = c.if-place-len.false in
    let low : c.args.to.0 < length c.args.self.now.machines.items = omega (arith, long, many, inside) in
    let wide = c.args.self.now.links.ok.0 in
    let ways = c.len-2.ensures in
    let within = c.if-source-len.false in
    let out : c.args.from.0 < length c.args.self.now.links.items = omega (arith, wide, ways, within) in
    let seat = seat_at has.setting has.program has.world c.args.self.now.machines.items c.args.self.now.links.items c.args.self.now.next c.args.self.now.left c.args.to.0 c.index_mut.result.now has.is low c.index_mut.ensures.value in
    let link = link_at has.setting has.program has.world c.args.self.now.machines.items c.args.self.now.links.items c.args.self.now.next c.args.self.now.left c.args.from.0 c.index_mut-2.result.now has.is out c.index_mut-2.ensures.value in
    receivable has.setting has.program has.world c.index_mut.result.now c.args.from.0 c.index_mut-2.result.now.queues.items message has.fits.divided.setting (reached_coherent has.setting has.program has.world has.fits.divided.setting has.is.reached)
    (seat_own has.setting has.world c.args.to.0 c.index_mut.result.now seat) seat.queues link.are one

pub returns-clause-applied : goal.returns-clause-applied
returns-clause-applied c = λ st p w fits are.
    let long = c.args.self.now.machines.ok.0 in
    let many = c.len.ensures in
    let inside = c.if-place-len.false in
    let low : c.args.to.0 < length c.args.self.now.machines.items = omega (arith, long, many, inside) in
    let wide = c.args.self.now.links.ok.0 in
    let ways = c.len-2.ensures in
    let within = c.if-source-len.false in
    let out : c.args.from.0 < length c.args.self.now.links.items = omega (arith, wide, ways, within) in
    let seat = seat_at st p w c.args.self.now.machines.items c.args.self.now.links.items c.args.self.now.next c.args.self.now.left c.args.to.0 c.index_mut.result.now are low c.index_mut.ensures.value in
    let link = link_at st p w c.args.self.now.machines.items c.args.self.now.links.items c.args.self.now.next c.args.self.now.left c.args.from.0 c.index_mut-2.result.now are out c.index_mut-2.ensures.value in
    on_ok_weaker c.deliver.result
    (λ done. let after = delivered st p w c.args.self.now.machines.items c.args.self.now.links.items c.args.self.now.next c.args.self.now.left c.args.to.0 c.args.from.0 c.index_mut.result.now c.deliver.new.self c.index_mut-2.result.now c.deliver.new.links low out are seat link c.deliver.ensures.still c.deliver.ensures.links_count done in
    record { may = after.0; after = after.1 })
    (c.deliver.ensures.delivered st (w.part c.args.to.0) (w.link c.args.from.0) fits.divided seat.is link.are
    (gives_here st p w c.args.to.0 c.args.from.0 c.index_mut.result.now fits.divided.setting are.reached seat.me))

pub returns-clause-unchanged : goal.returns-clause-unchanged
returns-clause-unchanged c = λ st p w fits are.
    let long = c.args.self.now.machines.ok.0 in
    let many = c.len.ensures in
    let inside = c.if-place-len.false in
    let low : c.args.to.0 < length c.args.self.now.machines.items = omega (arith, long, many, inside) in
    let wide = c.args.self.now.links.ok.0 in
    let ways = c.len-2.ensures in
    let within = c.if-source-len.false in
    let out : c.args.from.0 < length c.args.self.now.links.items = omega (arith, wide, ways, within) in
    let seat = seat_at st p w c.args.self.now.machines.items c.args.self.now.links.items c.args.self.now.next c.args.self.now.left c.args.to.0 c.index_mut.result.now are low c.index_mut.ensures.value in
    let link = link_at st p w c.args.self.now.machines.items c.args.self.now.links.items c.args.self.now.next c.args.self.now.left c.args.from.0 c.index_mut-2.result.now are out c.index_mut-2.ensures.value in
    on_err_weaker c.deliver.result
    (λ same. both_same st p w c.args.self.now.machines.items c.args.self.now.links.items c.args.self.now.next c.args.self.now.left c.args.to.0 c.args.from.0 c.index_mut.result.now c.deliver.new.self c.index_mut-2.result.now c.deliver.new.links low out are seat link c.deliver.ensures.still c.deliver.ensures.links_count same)
    (c.deliver.ensures.unchanged st (w.part c.args.to.0) (w.link c.args.from.0) seat.is link.are)

pub returns-clause-cluster : goal.returns-clause-cluster
returns-clause-cluster c =
    let has = c.requires.cluster in
    still_cluster c.args.division.now c.args.terms has.setting has.program has.world (Delivers c.args.from.0 c.args.to.0) _ c.deliver.result has.fits
    (returns-clause-applied c has.setting has.program has.world has.fits has.is) (returns-clause-unchanged c has.setting has.program has.world has.fits has.is)
