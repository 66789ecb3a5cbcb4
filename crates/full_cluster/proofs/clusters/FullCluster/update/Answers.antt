-- The update of a scope of the cluster.
use Rattle.std.proofs.Common.{◌<◌, ◌≤◌, ℕ, length, arith, subst, sym}
use Rattle.full_scope.specs.FullUpdates.{FullUpdate}
use Rattle.full_laws.specs.FullActions.{MayUpdateFull, Updates, after_action}
use Rattle.full_cluster.specs.declared.clusters.FullCluster.{FullCluster}
use Rattle.full_cluster.specs.FullClusters.{IsClusterOf}
use Rattle.full_cluster.proofs.ClusterLemmas.{acted_not, owners_low, seat_at, seat_once, seat_one, seat_sized}
use Rattle.full_cluster.proofs.ClusterUpdates.{at_home, can_update, is_ready, updated, updates_nothing}
use Rattle.full_cluster.proofs.clusters.FullCluster.update.Goals as goal

pub update-requires-clause-sized : goal.update-requires-clause-sized
update-requires-clause-sized g c =
    let has = c.requires.cluster in
    let long = c.args.self.now.machines.ok.0 in
    let many = c.len.ensures in
    let inside = c.if-place-len.false in
    let low : c.args.scope.home.0 < length c.args.self.now.machines.items = omega (arith, long, many, inside) in
    let seat = seat_at has.setting (g.P.FullProgram.meaning c.args.program.now) has.world c.args.self.now.machines.items c.args.self.now.links.items c.args.self.now.next c.args.self.now.left c.args.scope.home.0 c.index_mut.result.now has.is low c.index_mut.ensures.value in
    seat_sized has.setting c.args.division.now c.args.scope.home.0 c.index_mut.result.now (has.world.part c.args.scope.home.0) has.fits.divided seat

pub update-requires-clause-one : goal.update-requires-clause-one
update-requires-clause-one g c =
    let has = c.requires.cluster in
    let long = c.args.self.now.machines.ok.0 in
    let many = c.len.ensures in
    let inside = c.if-place-len.false in
    let low : c.args.scope.home.0 < length c.args.self.now.machines.items = omega (arith, long, many, inside) in
    let seat = seat_at has.setting (g.P.FullProgram.meaning c.args.program.now) has.world c.args.self.now.machines.items c.args.self.now.links.items c.args.self.now.next c.args.self.now.left c.args.scope.home.0 c.index_mut.result.now has.is low c.index_mut.ensures.value in
    let all = has.is.count in
    seat_one has.setting c.args.terms c.args.scope.home.0 c.index_mut.result.now (has.world.part c.args.scope.home.0) has.fits.terms_are.machines (omega (arith, low, all)) seat

pub update-requires-clause-low : goal.update-requires-clause-low
update-requires-clause-low g c =
    let has = c.requires.cluster in
    owners_low has.setting c.args.division.now c.args.terms has.fits

pub update-requires-clause-once : goal.update-requires-clause-once
update-requires-clause-once g c =
    let has = c.requires.cluster in
    let long = c.args.self.now.machines.ok.0 in
    let many = c.len.ensures in
    let inside = c.if-place-len.false in
    let low : c.args.scope.home.0 < length c.args.self.now.machines.items = omega (arith, long, many, inside) in
    let seat = seat_at has.setting (g.P.FullProgram.meaning c.args.program.now) has.world c.args.self.now.machines.items c.args.self.now.links.items c.args.self.now.next c.args.self.now.left c.args.scope.home.0 c.index_mut.result.now has.is low c.index_mut.ensures.value in
    seat_once has.setting c.args.scope.home.0 c.index_mut.result.now (has.world.part c.args.scope.home.0) seat

pub update-requires-clause-home : goal.update-requires-clause-home
update-requires-clause-home g c =
    let has = c.requires.cluster in
    let long = c.args.self.now.machines.ok.0 in
    let many = c.len.ensures in
    let inside = c.if-place-len.false in
    let low : c.args.scope.home.0 < length c.args.self.now.machines.items = omega (arith, long, many, inside) in
    let seat = seat_at has.setting (g.P.FullProgram.meaning c.args.program.now) has.world c.args.self.now.machines.items c.args.self.now.links.items c.args.self.now.next c.args.self.now.left c.args.scope.home.0 c.index_mut.result.now has.is low c.index_mut.ensures.value in
    at_home has.setting c.args.scope c.index_mut.result.now (has.world.part c.args.scope.home.0) seat

pub update-requires-clause-updatable : goal.update-requires-clause-updatable
update-requires-clause-updatable g c =
    let has = c.requires.cluster in
    let long = c.args.self.now.machines.ok.0 in
    let many = c.len.ensures in
    let inside = c.if-place-len.false in
    let low : c.args.scope.home.0 < length c.args.self.now.machines.items = omega (arith, long, many, inside) in
    let seat = seat_at has.setting (g.P.FullProgram.meaning c.args.program.now) has.world c.args.self.now.machines.items c.args.self.now.links.items c.args.self.now.next c.args.self.now.left c.args.scope.home.0 c.index_mut.result.now has.is low c.index_mut.ensures.value in
    can_update has.setting (g.P.FullProgram.meaning c.args.program.now) has.world c.args.division.now c.args.scope c.index_mut.result.now has.fits.divided has.is.reached seat

pub draw-requires-clause-some : goal.draw-requires-clause-some
draw-requires-clause-some g c =
    let p : FullUpdate = g.P.FullProgram.meaning c.args.program.now in
    let has = c.requires.cluster in
    let long = c.args.self.now.machines.ok.0 in
    let many = c.len.ensures in
    let inside = c.if-place-len.false in
    let low : c.args.scope.home.0 < length c.args.self.now.machines.items = omega (arith, long, many, inside) in
    let seat = seat_at has.setting (g.P.FullProgram.meaning c.args.program.now) has.world c.args.self.now.machines.items c.args.self.now.links.items c.args.self.now.next c.args.self.now.left c.args.scope.home.0 c.index_mut.result.now has.is low c.index_mut.ensures.value in
    (c.in-Ok.ensures.updated has.setting (has.world.part c.args.scope.home.0) has.fits.divided has.fits.terms_are seat.is (is_ready has.setting p has.world c.args.scope c.index_mut.result.now has.fits.divided.setting has.is.reached seat)).0.ticket

pub draw-requires-clause-few : goal.draw-requires-clause-few
draw-requires-clause-few g c =
    c.requires.cluster.is.few

pub returns-then-place-len-clause-not_now : goal.returns-then-place-len-clause-not_now
returns-then-place-len-clause-not_now g c = λ st p w fits are refused may.
    let long = c.args.self.now.machines.ok.0 in
    let many = c.len.ensures in
    let outside = c.if-place-len.true in
    let all = are.count in
    let past : st.machines ≤ c.args.scope.home.0 = omega (arith, long, many, outside, all) in
    updates_nothing st p w c.args.self.now.machines.items c.args.self.now.links.items c.args.self.now.next c.args.self.now.left c.args.scope w.left are past may

pub returns-in-Ok-clause-applied : goal.returns-in-Ok-clause-applied
returns-in-Ok-clause-applied g c = λ st w fits are.
    let p : FullUpdate = g.P.FullProgram.meaning c.args.program.now in
    let long = c.args.self.now.machines.ok.0 in
    let many = c.len.ensures in
    let inside = c.if-place-len.false in
    let low : c.args.scope.home.0 < length c.args.self.now.machines.items = omega (arith, long, many, inside) in
    let seat = seat_at st p w c.args.self.now.machines.items c.args.self.now.links.items c.args.self.now.next c.args.self.now.left c.args.scope.home.0 c.index_mut.result.now are low c.index_mut.ensures.value in
    let after = updated st p w c.args.self.now.machines.items c.args.self.now.links.items c.args.self.now.next c.args.self.now.left c.index_mut.result.now c.update.new.self c.args.scope low are seat c.update.ensures.still
    (c.in-Ok.ensures.updated st (w.part c.args.scope.home.0) fits.divided fits.terms_are seat.is (is_ready st p w c.args.scope c.index_mut.result.now fits.divided.setting are.reached seat)) in
    record { may = after.0; after = subst (λ (x : FullCluster). IsClusterOf st p (after_action st p w (Updates c.args.scope)) x) (sym c.draw.ensures) after.1 }

pub returns-in-Ok-clause-cluster : goal.returns-in-Ok-clause-cluster
returns-in-Ok-clause-cluster g c =
    let has = c.requires.cluster in
    let applied = returns-in-Ok-clause-applied g c has.setting has.world has.fits has.is in
    record { setting = has.setting; world = after_action has.setting (g.P.FullProgram.meaning c.args.program.now) has.world (Updates c.args.scope); fits = has.fits; is = applied.after }

pub returns-in-Err-clause-not_now : goal.returns-in-Err-clause-not_now
returns-in-Err-clause-not_now g c = λ st p w fits are refused may.
    let long = c.args.self.now.machines.ok.0 in
    let many = c.len.ensures in
    let inside = c.if-place-len.false in
    let low : c.args.scope.home.0 < length c.args.self.now.machines.items = omega (arith, long, many, inside) in
    let seat = seat_at st p w c.args.self.now.machines.items c.args.self.now.links.items c.args.self.now.next c.args.self.now.left c.args.scope.home.0 c.index_mut.result.now are low c.index_mut.ensures.value in
    c.in-Err.ensures.not_now st (w.part c.args.scope.home.0) seat.is refused
    (subst (λ (n : ℕ). MayUpdateFull c.args.scope (w.part c.args.scope.home.0) n) are.tickets may)

pub returns-in-Err-clause-no_memory : goal.returns-in-Err-clause-no_memory
returns-in-Err-clause-no_memory g c = λ st p w fits are refused.
    let long = c.args.self.now.machines.ok.0 in
    let many = c.len.ensures in
    let inside = c.if-place-len.false in
    let low : c.args.scope.home.0 < length c.args.self.now.machines.items = omega (arith, long, many, inside) in
    let seat = seat_at st p w c.args.self.now.machines.items c.args.self.now.links.items c.args.self.now.next c.args.self.now.left c.args.scope.home.0 c.index_mut.result.now are low c.index_mut.ensures.value in
    subst (λ (n : ℕ). MayUpdateFull c.args.scope (w.part c.args.scope.home.0) n) (sym are.tickets)
    (c.in-Err.ensures.no_memory st (w.part c.args.scope.home.0) seat.is refused)

pub returns-in-Err-clause-unchanged : goal.returns-in-Err-clause-unchanged
returns-in-Err-clause-unchanged g c = λ st p w fits are.
    let long = c.args.self.now.machines.ok.0 in
    let many = c.len.ensures in
    let inside = c.if-place-len.false in
    let low : c.args.scope.home.0 < length c.args.self.now.machines.items = omega (arith, long, many, inside) in
    let seat = seat_at st p w c.args.self.now.machines.items c.args.self.now.links.items c.args.self.now.next c.args.self.now.left c.args.scope.home.0 c.index_mut.result.now are low c.index_mut.ensures.value in
    acted_not st p w c.args.self.now.machines.items c.args.self.now.links.items c.args.self.now.next c.args.self.now.left c.args.scope.home.0 c.index_mut.result.now c.update.new.self low are seat c.update.ensures.still
    (c.in-Err.ensures.unchanged st (w.part c.args.scope.home.0) fits.divided seat.is)

pub returns-in-Err-clause-cluster : goal.returns-in-Err-clause-cluster
returns-in-Err-clause-cluster g c =
    let has = c.requires.cluster in
    let p : FullUpdate = g.P.FullProgram.meaning c.args.program.now in
    record { setting = has.setting; world = has.world; fits = has.fits; is = returns-in-Err-clause-unchanged g c has.setting p has.world has.fits has.is }
