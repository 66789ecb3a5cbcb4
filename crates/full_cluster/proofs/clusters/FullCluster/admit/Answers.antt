-- A machine of the cluster admits a scope.
use Rattle.std.proofs.Common.{◌<◌, length, arith}
use Rattle.std.proofs.lemmas.Result.{on_err_weaker, on_ok_weaker}
use Rattle.full_laws.specs.FullActions.{Admits}
use Rattle.full_cluster.proofs.ClusterLemmas.{acted_not, admitted, owners_low, reached_coherent, seat_at, seat_own, still_cluster}
use Rattle.full_cluster.proofs.CoherentLemmas.{next_new}
use Rattle.full_cluster.proofs.clusters.FullCluster.admit.Goals as goal

pub admit-requires-clause-low : goal.admit-requires-clause-low
admit-requires-clause-low c = owners_low c.requires.cluster.setting c.args.division.now c.args.terms c.requires.cluster.fits

pub admit-requires-clause-new : goal.admit-requires-clause-new
admit-requires-clause-new c =
    let has = c.requires.cluster in
    let long = c.args.self.now.machines.ok.0 in
    let many = c.len.ensures in
    let inside = c.if-place-len.false in
    let low : c.args.machine.0 < length c.args.self.now.machines.items = omega (arith, long, many, inside) in
    let seat = seat_at has.setting has.program has.world c.args.self.now.machines.items c.args.self.now.links.items c.args.self.now.next c.args.self.now.left c.args.machine.0 c.index_mut.result.now has.is low c.index_mut.ensures.value in
    next_new has.setting has.program has.world c.index_mut.result.now (reached_coherent has.setting has.program has.world has.fits.divided.setting has.is.reached) (seat_own has.setting has.world c.args.machine.0 c.index_mut.result.now seat)

pub returns-clause-applied : goal.returns-clause-applied
returns-clause-applied c = λ st p w fits are.
    let long = c.args.self.now.machines.ok.0 in
    let many = c.len.ensures in
    let inside = c.if-place-len.false in
    let low : c.args.machine.0 < length c.args.self.now.machines.items = omega (arith, long, many, inside) in
    let seat = seat_at st p w c.args.self.now.machines.items c.args.self.now.links.items c.args.self.now.next c.args.self.now.left c.args.machine.0 c.index_mut.result.now are low c.index_mut.ensures.value in
    on_ok_weaker c.admit.result
    (λ done. let after = admitted st p w c.args.self.now.machines.items c.args.self.now.links.items c.args.self.now.next c.args.self.now.left c.args.machine.0 c.args.v.0 c.index_mut.result.now c.admit.new.self low are seat c.admit.ensures.still done in
    record { may = after.0; after = after.1 })
    (c.admit.ensures.admitted st (w.part c.args.machine.0) fits.divided fits.terms_are seat.is)

pub returns-clause-unchanged : goal.returns-clause-unchanged
returns-clause-unchanged c = λ st p w fits are.
    let long = c.args.self.now.machines.ok.0 in
    let many = c.len.ensures in
    let inside = c.if-place-len.false in
    let low : c.args.machine.0 < length c.args.self.now.machines.items = omega (arith, long, many, inside) in
    let seat = seat_at st p w c.args.self.now.machines.items c.args.self.now.links.items c.args.self.now.next c.args.self.now.left c.args.machine.0 c.index_mut.result.now are low c.index_mut.ensures.value in
    on_err_weaker c.admit.result
    (λ same. acted_not st p w c.args.self.now.machines.items c.args.self.now.links.items c.args.self.now.next c.args.self.now.left c.args.machine.0 c.index_mut.result.now c.admit.new.self low are seat c.admit.ensures.still same)
    (c.admit.ensures.unchanged st (w.part c.args.machine.0) seat.is)

pub returns-clause-cluster : goal.returns-clause-cluster
returns-clause-cluster c =
    let has = c.requires.cluster in
    still_cluster c.args.division.now c.args.terms has.setting has.program has.world (Admits c.args.machine.0 c.args.v.0) _ c.admit.result has.fits
    (returns-clause-applied c has.setting has.program has.world has.fits has.is) (returns-clause-unchanged c has.setting has.program has.world has.fits has.is)
